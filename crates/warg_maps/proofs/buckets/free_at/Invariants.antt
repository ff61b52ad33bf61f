use Rattle.std.specs.Prelude.{◌≢◌, ◌+◌, ◌<◌, ℕ}
use Rattle.warg_maps.specs.Buckets.{free, slot_at}
use Rattle.warg_maps.proofs.buckets.free_at.Given as goal

abbrev pub invariant-loop-lane : goal.invariant-loop-lane
invariant-loop-lane l = (k : ℕ) → k < l.lane → (slot_at l.slots (l.first + k)).place ≢ free
