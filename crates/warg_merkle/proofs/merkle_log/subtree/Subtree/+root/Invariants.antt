use Rattle.std.proofs.Common.{length}
use Rattle.warg_merkle.proofs.merkle_log.subtree.Subtree.+root.Given as goal

abbrev pub decreases-root : goal.decreases-root
decreases-root l = length l.self.now.leaves.now
