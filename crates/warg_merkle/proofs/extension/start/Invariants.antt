use Rattle.warg_merkle.specs.Extensions.{start_index, sides_from_start}
use Rattle.warg_merkle.proofs.JoinLevels.{Starts}
use Rattle.warg_merkle.proofs.extension.start.Given as goal

abbrev pub invariant-loop-at : goal.invariant-loop-at
invariant-loop-at l = Starts l.at l.end (start_index 64 l.fn.leaf) (sides_from_start 64 l.fn.leaf l.fn.last)

abbrev pub decreases-loop-at : goal.decreases-loop-at
decreases-loop-at l = l.at
