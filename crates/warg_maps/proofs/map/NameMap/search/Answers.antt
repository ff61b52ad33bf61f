use Rattle.std.proofs.Common.{◌≡◌, ℕ, get_or, IfSome, IfNone, IsTrue}
use mathlib.Core.Path.{sym, ap, subst, ◌∙◌}
use native.Mathlib.Omega.{arith}
use lib.ListN.{length-map}
use Rattle.std.specs.List.{IsDistinct}
use Rattle.std.specs.Map.{keys_of}
use Rattle.std_collections.specs.Layout.Columns.{entry_at}
use Rattle.indexmap.specs.IndexMap.{hasher_of}
use Rattle.indexmap.specs.Layout.{table_hash}
use Rattle.warg_maps.specs.FarHash.{far_hash}
use Rattle.warg_maps.specs.Index.{HasEntry, IsAt}
use Rattle.warg_maps.proofs.MapLemmas.{keys-seen, position-at, position-none}
use Rattle.warg_maps.proofs.map.NameMap.search.Goals as goal

pub returns-in-Some-clause-index : goal.returns-in-Some-clause-index
returns-in-Some-clause-index g c =
    let t = g.Q.Query.equivalent c.args.key in
    let seen = keys-seen c.self.inside.keys.items c.self.inside.values.items _ c.self.invariant.0 (ap (λ v. v.entries) c.self.view_is) in
    let distinct = subst (IsDistinct g.K.PartialEq.eq) seen c.self.invariant.1.distinct in
    let found : IsAt t c.as_slice.result.now c.in-Some.place = subst (λ o. IfSome o (IsAt t c.as_slice.result.now)) c.in-Some.is c.search-place.ensures.found in
    let at = subst (λ ks. IsAt t ks c.in-Some.place) (c.as_slice.ensures.value ∙ seen) found in
    sym (position-at t _ g.met.K.Eq.laws (g.met.Q.Query.respects_eq c.args.key) distinct c.in-Some.place at)

pub returns-in-Some-clause-unique : goal.returns-in-Some-clause-unique
returns-in-Some-clause-unique g c =
    subst (IsDistinct g.K.PartialEq.eq) (keys-seen c.self.inside.keys.items c.self.inside.values.items _ c.self.invariant.0 (ap (λ v. v.entries) c.self.view_is)) c.self.invariant.1.distinct

pub returns-in-None-clause-index : goal.returns-in-None-clause-index
returns-in-None-clause-index g c =
    let m = c.self.inside in
    let ks = m.keys.items in
    let es = c.args.self.now.entries in
    let key = c.args.key in
    let t = g.Q.Query.equivalent key in
    let seen = keys-seen c.self.inside.keys.items c.self.inside.values.items _ c.self.invariant.0 (ap (λ v. v.entries) c.self.view_is) in
    let hash = λ (k : g.row.K.Denot). table_hash g.S.BuildHasher g.S.Hasher.Hasher m.hash_builder (g.K.Hash.hash_input k) in
    let Missed = (i : ℕ) (k : g.row.K.Denot) → IsTrue (t k) → HasEntry g.K.Ord.cmp m.index c.args.hash (far_hash (g.Q.Hash.hash_input key)) k i → IsAt t c.as_slice.result.now i → ⊥ in
    let missed : Missed = subst (λ o. IfNone o Missed) c.in-None.is c.search-place.ensures.missed in
    let none : (i : ℕ) → IsAt t (keys_of es) i → ⊥
    = λ i given.
    let at = subst (λ l. IsAt t l i) (sym seen) given in
    let d = (entry_at es i (omega (arith, given.within, length-map es (λ e. e.0)))).0 in
    let k = get_or ks i d in
    let stands = at.passes d in
    let written = g.met.Q.Query.respects_hash key k stands in
    let hashed : hash k ≡ c.args.hash = sym (c.requires ∙ (λ j. table_hash g.S.BuildHasher g.S.Hasher.Hasher (sym (ap hasher_of c.self.view_is) j) (written j))) in
    let entry = subst (λ n. HasEntry g.K.Ord.cmp m.index n (far_hash (g.K.Hash.hash_input k)) k i) hashed (c.self.invariant.1.placed i d at.within) in
    missed i k stands (subst (λ n. HasEntry g.K.Ord.cmp m.index c.args.hash (far_hash n) k i) (sym written) entry) (subst (λ l. IsAt t l i) (sym c.as_slice.ensures.value) at) in
    sym (position-none t es none)

pub returns-in-None-clause-unique : goal.returns-in-None-clause-unique
returns-in-None-clause-unique g c =
    subst (IsDistinct g.K.PartialEq.eq) (keys-seen c.self.inside.keys.items c.self.inside.values.items _ c.self.invariant.0 (ap (λ v. v.entries) c.self.view_is)) c.self.invariant.1.distinct
