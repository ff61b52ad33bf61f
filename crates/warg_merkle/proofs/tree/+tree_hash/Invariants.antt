use Rattle.std.proofs.Common.{length}
use Rattle.warg_merkle.proofs.tree.+tree_hash.Given as goal

abbrev pub decreases-tree_hash : goal.decreases-tree_hash
decreases-tree_hash l = length l.leaves.now
