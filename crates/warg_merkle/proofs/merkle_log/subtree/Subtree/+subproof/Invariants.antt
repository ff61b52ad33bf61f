use Rattle.std.proofs.Common.{length}
use Rattle.warg_merkle.proofs.merkle_log.subtree.Subtree.+subproof.Given as goal

abbrev pub decreases-subproof : goal.decreases-subproof
decreases-subproof l = length l.self.now.leaves.now
