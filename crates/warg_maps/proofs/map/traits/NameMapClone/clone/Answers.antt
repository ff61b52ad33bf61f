use Rattle.std.specs.Prelude.{◌≡◌, Bool, true, false, not, map, length}
use mathlib.Core.Path.{refl, sym, ap, subst, ◌∙◌}
use mathlib.Core.Bool.{true≢false}
use native.Mathlib.Omega.{arith}
use lib.Pointwise.{pointwise_long}
use Rattle.std.specs.List.{AllZip, IsDistinct}
use Rattle.indexmap.specs.Layout.{table_hash}
use Rattle.indexmap.proofs.SetLemmas.{zip_same}
use Rattle.std_collections.proofs.HashLookup.{IsDistinct-equal_keys, map_equal_keys}
use Rattle.std_collections.proofs.Zip.{all_zip-zip}
use Rattle.warg_maps.proofs.MapLemmas.{whole-filled}
use Rattle.warg_maps.proofs.map.traits.NameMapClone.clone.Goals as goal

not-refused : (b : Bool) → not b ≡ false → b ≡ true
not-refused true h = refl
not-refused false h = absurd (true≢false h)

pub over-requires-clause-distinct : goal.over-requires-clause-distinct
over-requires-clause-distinct g c =
    let equal = not-refused _ (sym c.ne.ensures ∙ c.if-ne.false) in
    subst (IsDistinct g.K.PartialEq.eq) (sym c.as_slice.ensures.value) (IsDistinct-equal_keys _ g.met.K.Eq.laws _ _ equal c.self.invariant.1.distinct)

pub invariant_of-result : goal.invariant_of-result
invariant_of-result g c =
    let m = c.self.inside in
    let keys = c.in_ok-keys.keys in
    let values = c.in_ok-values.values in
    let hashes = c.in_ok-hashes.hashes in
    let w = c.self.invariant.1 in
    let f = λ (k : g.row.K.Denot). table_hash g.S.BuildHasher g.S.Hasher.Hasher m.hash_builder (g.K.Hash.hash_input k) in
    let equal = not-refused _ (sym c.ne.ensures ∙ c.if-ne.false) in
    let long : length keys.items ≡ length m.keys.items = pointwise_long _ _ _ equal in
    let respects : (x y : g.row.K.Denot) → g.K.PartialEq.eq x y ≡ true → f x ≡ f y
    = λ x y e. ap (table_hash g.S.BuildHasher g.S.Hasher.Hasher m.hash_builder) (g.met.K.Hash.respects_eq x y e) in
    let copied : hashes.items ≡ m.hashes.items = zip_same _ (λ x y e. e) _ _ c.in_ok-hashes.ensures.cases.0 in
    let hashed : hashes.items ≡ map f keys.items = copied ∙ w.hashed ∙ sym (map_equal_keys _ g.met.K.Eq.laws f respects keys.items m.keys.items equal) in
    let x = c.in_ok-index.ensures in (
      omega (arith, c.in_ok-values.ensures.cases.1, values.ok.0, m.values.ok.0, c.self.invariant.0, long),
      whole-filled _ _ f _ c.in_ok-index.index hashes.items keys.items _ _ c.as_slice.ensures.value c.as_slice-2.ensures.value
          (IsDistinct-equal_keys _ g.met.K.Eq.laws _ _ equal w.distinct) hashed x.placed (omega (arith, long, w.small)),
    )

pub returns : goal.returns
returns g c =
    let C = g.K.Clone.is_clone in
    let D = g.V.Clone.is_clone in
    record {
      cases = subst (λ m. AllZip (λ p q. C p.0 q.0 × D p.1 q.1) m.entries (Rattle.std.specs.List.zip c.in_ok-keys.keys.items c.in_ok-values.values.items)) c.self.view_is
          (all_zip-zip C D _ _ _ _ c.in_ok-keys.ensures.cases.0 c.in_ok-values.ensures.cases.0);
    }
