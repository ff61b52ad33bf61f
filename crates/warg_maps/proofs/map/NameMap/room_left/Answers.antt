use Rattle.std.specs.Prelude.{◌≡◌}
use mathlib.Core.Path.{ap, subst, ◌∙◌}
use native.Mathlib.Omega.{arith}
use Rattle.std.specs.List.{IsDistinct}
use Rattle.indexmap.specs.IndexMap.{spare}
use Rattle.warg_maps.specs.NameMap.{room_of}
use Rattle.warg_maps.proofs.MapLemmas.{keys-seen, length-seen, room-small}
use Rattle.warg_maps.proofs.map.NameMap.room_left.Goals as goal

pub returns-clause-value : goal.returns-clause-value
returns-clause-value g c =
    let m = c.self.inside in
    let room : c.room_of-room.result ≡ room_of m.keys.cap m.values.cap m.hashes.cap
    = c.room_of-room.ensures ∙ (λ j. room_of (c.capacity.ensures j) (c.capacity-2.ensures j) (c.capacity-hashes.ensures j)) in
    omega (arith, room, c.len.ensures, m.keys.ok.0, ap spare c.self.view_is)

pub returns-clause-fits : goal.returns-clause-fits
returns-clause-fits g c =
    let m = c.self.inside in
    let room : c.room_of-room.result ≡ room_of m.keys.cap m.values.cap m.hashes.cap
    = c.room_of-room.ensures ∙ (λ j. room_of (c.capacity.ensures j) (c.capacity-2.ensures j) (c.capacity-hashes.ensures j)) in
    omega (arith, room, room-small m.keys.cap m.values.cap m.hashes.cap, c.len.ensures, m.keys.ok.0, c.self.invariant.1.small, length-seen c.self.inside.keys.items c.self.inside.values.items _ c.self.invariant.0 (ap (λ v. v.entries) c.self.view_is))

pub returns-clause-unique : goal.returns-clause-unique
returns-clause-unique g c = subst (IsDistinct g.K.PartialEq.eq) (keys-seen c.self.inside.keys.items c.self.inside.values.items _ c.self.invariant.0 (ap (λ v. v.entries) c.self.view_is)) c.self.invariant.1.distinct
