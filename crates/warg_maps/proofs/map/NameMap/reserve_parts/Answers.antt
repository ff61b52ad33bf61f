use Rattle.std.proofs.Common.{◌≡◌, ◌+◌, ◌≤◌, length, OnOk, refl, arith}
use mathlib.Core.Path.{sym, ap, subst, ◌∙◌}
use Rattle.indexmap.specs.IndexMap.{spare}
use Rattle.indexmap.proofs.MapLemmas.{OnOk-map}
use Rattle.warg_maps.proofs.MapLemmas.{hash-counted, whole-as, room-grows, room-enough}
use Rattle.warg_maps.proofs.map.NameMap.reserve_parts.Goals as goal

pub invariant_of-self : goal.invariant_of-self
invariant_of-self g c =
    let m = c.self.inside in
    (c.self.invariant.0 ∙ sym (ap length c.reserve.ensures.items), whole-as _ _ _ _ m.index m.index m.hashes.items _ m.keys.items _ (λ h f k i e. e) refl c.reserve.ensures.items c.self.invariant.1)

pub returns-in_err-reserve-clause-spare : goal.returns-in_err-reserve-clause-spare
returns-in_err-reserve-clause-spare g c =
    let m = c.self.inside in
    let n = length m.keys.items in
    omega (arith, ap spare c.self.view_is, ap length c.reserve.ensures.items, room-grows m.keys.cap m.values.cap m.hashes.cap c.reserve.new.self.cap m.values.cap m.hashes.cap n c.reserve.ensures.capacity (omega arith) (omega arith))

pub invariant_of-self-in_err-reserve-2 : goal.invariant_of-self-in_err-reserve-2
invariant_of-self-in_err-reserve-2 g c =
    let m = c.self.inside in
    (ap length c.reserve-2.ensures.items ∙ c.self.invariant.0 ∙ sym (ap length c.reserve.ensures.items), whole-as _ _ _ _ m.index m.index m.hashes.items _ m.keys.items _ (λ h f k i e. e) refl c.reserve.ensures.items c.self.invariant.1)

pub returns-in_err-reserve-2-clause-spare : goal.returns-in_err-reserve-2-clause-spare
returns-in_err-reserve-2-clause-spare g c =
    let m = c.self.inside in
    let n = length m.keys.items in
    omega (arith, ap spare c.self.view_is, ap length c.reserve.ensures.items, room-grows m.keys.cap m.values.cap m.hashes.cap c.reserve.new.self.cap c.reserve-2.new.self.cap m.hashes.cap n c.reserve.ensures.capacity c.reserve-2.ensures.capacity (omega arith))

pub invariant_of-self-2 : goal.invariant_of-self-2
invariant_of-self-2 g c =
    let m = c.self.inside in (
      ap length c.reserve-2.ensures.items ∙ c.self.invariant.0 ∙ sym (ap length c.reserve.ensures.items),
      whole-as _ _ _ _ m.index m.index m.hashes.items _ m.keys.items _ (λ h f k i e. e) c.reserve-3.ensures.items c.reserve.ensures.items c.self.invariant.1,
    )

pub returns-clause-ok : goal.returns-clause-ok
returns-clause-ok g c =
    let m = c.self.inside in
    let k = c.args.additional in
    let a = c.reserve in
    let b = c.reserve-2 in
    let d = c.reserve-3 in
    let n = length a.new.self.items in
    let long : n ≡ length m.keys.items = ap length a.ensures.items in
    let at_keys = subst (λ r. OnOk r (a.new.self.len + k ≤ a.new.self.cap)) c.in_ok-reserve.was a.ensures.ok in
    let at_values = subst (λ r. OnOk r (b.new.self.len + k ≤ b.new.self.cap)) c.in_ok-reserve-2.was b.ensures.ok in
    let even = c.self.invariant.0 in
    let counted = hash-counted _ _ _ _ c.self.invariant.1 in
    OnOk-map d.result _ _ (λ at_hashes.
    room-enough a.new.self.cap b.new.self.cap d.new.self.cap n k
    (omega (arith, at_keys, long, a.ensures.len, m.keys.ok.0))
    (omega (arith, at_values, long, b.ensures.len, m.values.ok.0, even))
    (omega (arith, at_hashes, long, d.ensures.len, m.hashes.ok.0, counted))
    (omega (arith, c.if-additional-len.false, long, c.self.invariant.1.small, c.len.ensures, m.keys.ok.0))) d.ensures.ok

pub returns-clause-spare : goal.returns-clause-spare
returns-clause-spare g c =
    let m = c.self.inside in
    let n = length m.keys.items in
    omega (
      arith,
      ap spare c.self.view_is,
      ap length c.reserve.ensures.items,
      room-grows m.keys.cap m.values.cap m.hashes.cap c.reserve.new.self.cap c.reserve-2.new.self.cap c.reserve-3.new.self.cap n c.reserve.ensures.capacity c.reserve-2.ensures.capacity c.reserve-3.ensures.capacity,
    )
