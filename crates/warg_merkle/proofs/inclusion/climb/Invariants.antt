use Rattle.sha2.specs.Sha256.{sha256}
use Rattle.warg_merkle.specs.Trees.{climb, sides_within}
use Rattle.warg_merkle.proofs.Rests.{Ends}
use Rattle.warg_merkle.proofs.inclusion.climb.Given as goal

abbrev pub invariant-loop-end : goal.invariant-loop-end
invariant-loop-end l = Ends sha256 l.at l.end l.rest l.hash (climb sha256 (sides_within 64 l.fn.index l.fn.last) l.fn.path l.fn.from)

abbrev pub decreases-loop-end : goal.decreases-loop-end
decreases-loop-end l = l.end
