use Rattle.std.proofs.Common.{refl}
use Rattle.warg_maps.proofs.MapLemmas.{whole-as, whole-filled}
use Rattle.warg_maps.proofs.map.NameMap.reindex.Goals as goal

pub invariant_of-self : goal.invariant_of-self
invariant_of-self g c = (c.self.invariant.0, whole-as _ _ _ _ _ _ _ _ _ _ (c.in_err-widen.ensures.err _) refl refl c.self.invariant.1)

pub invariant_of-self-2 : goal.invariant_of-self-2
invariant_of-self-2 g c =
    let m = c.self.inside in
    let w = c.self.invariant.1 in (
      c.self.invariant.0,
      whole-filled _ _ _ _ _ m.hashes.items m.keys.items _ _ c.as_slice.ensures.value c.as_slice-2.ensures.value w.distinct w.hashed c.refill.ensures.placed w.small,
    )
