use Rattle.std.specs.Prelude.{◌≡◌, ◌≤◌}
use Rattle.std.specs.Map.Calls.{CalledAtPair, TakesPair}
use Rattle.std_collections.proofs.RetainLoop.{Sifting}
use Rattle.warg_maps.proofs.map.retain.sift.Given as goal

abbrev pub invariant-loop-place : goal.invariant-loop-place
invariant-loop-place g l =
    Sifting (CalledAtPair g.F.FnMut) (TakesPair g.F.FnMut) l.initial.keep l.initial.keys.items l.initial.values.items l.keep l.keys.items l.values.items l.front l.place
    × ((l.count ≡ l.keys.len) × (l.count ≡ l.values.len) × (l.front ≤ l.place) × (l.place ≤ l.count))
    × ((l.keys.cap ≡ l.initial.keys.cap) × (l.values.cap ≡ l.initial.values.cap))
