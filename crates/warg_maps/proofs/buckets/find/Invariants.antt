use Rattle.std.specs.Prelude.{◌≡◌, ◌≢◌, ◌+◌, ◌<◌, ℕ, false}
use Rattle.warg_maps.specs.Buckets.{free, slot_at}
use Rattle.warg_maps.proofs.buckets.find.Given as goal

abbrev pub invariant-loop-lane : goal.invariant-loop-lane
invariant-loop-lane g l =
    ((k : ℕ) → k < l.lane → (slot_at l.slots (l.first + k)).place ≢ free)
    × ((k i : ℕ) → k < l.lane → i < free → slot_at l.slots (l.first + k) ≡ record { hash = l.hash; place = i } → goal.F-post g l.eq i false)
