use Rattle.std.proofs.Common.{◌≡◌, ℕ, ◌^◌, ◌<◌, ◌-◌}
use Rattle.warg_merkle.proofs.tree.left_size.Given as goal

abbrev pub invariant-loop-left : goal.invariant-loop-left
invariant-loop-left l = (j : ℕ) × (l.left ≡ 2 ^ j) × (l.left < l.size)

abbrev pub decreases-loop-left : goal.decreases-loop-left
decreases-loop-left l = l.size - l.left
