use Rattle.std.proofs.Common.{length}
use Rattle.warg_merkle.proofs.tree.+own_path.Given as goal

abbrev pub decreases-own_path : goal.decreases-own_path
decreases-own_path l = length l.leaves.now
