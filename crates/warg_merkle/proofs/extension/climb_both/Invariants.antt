use Rattle.sha2.specs.Sha256.{sha256}
use Rattle.warg_merkle.specs.Trees.{sides_within}
use Rattle.warg_merkle.specs.Extensions.{climb_both}
use Rattle.warg_merkle.proofs.RestsBoth.{Ends}
use Rattle.warg_merkle.proofs.extension.climb_both.Given as goal

abbrev pub invariant-loop-end : goal.invariant-loop-end
invariant-loop-end l = Ends sha256 l.at l.end l.rest l.old l.new (climb_both sha256 (sides_within 64 l.fn.index l.fn.last) l.fn.path l.fn.start l.fn.start)

abbrev pub decreases-loop-end : goal.decreases-loop-end
decreases-loop-end l = l.end
