use Rattle.std.proofs.Common.{length}
use Rattle.warg_merkle.proofs.merkle_log.subtree.Subtree.+path.Given as goal

abbrev pub decreases-path : goal.decreases-path
decreases-path l = length l.self.now.leaves.now
