-- What a value that is written through a look-up leaves of a map.
use Rattle.std.proofs.Common.{◌≡◌, ℕ, Bool, None, Some, position, is_some, refl, sym, ap, ◌∙◌, subst, true≢false}
use Rattle.std.specs.Cmp.{IsEquivalence}
use Rattle.std.specs.List.{IsDistinct}
use Rattle.std.specs.Map.{IsKeyTest}
use Rattle.std_collections.proofs.Entries.{keys_set_value_at, length-set_value_at}
use Rattle.std_collections.proofs.HashLookup.{set_value-IsFirst, set_value-IsAbsent, Updated-set}
use Rattle.indexmap.specs.IndexMap.{IndexMap, IsUnique, WritesThrough, keys, with_value_at}
use Rattle.indexmap.proofs.MapLemmas.{Found-position, Missing-position}

module _ {K V S : Type 0} {eq : K → K → Bool} (laws : IsEquivalence eq) (t : K → Bool) (test : IsKeyTest eq t) (m : IndexMap K V S) (unique : IsUnique eq m) (w : V) where
  pub writes-at : (i : ℕ) → position t (keys m) ≡ Some i → WritesThrough eq t m w (with_value_at m i w)
  writes-at i place =
      let es = m.entries in
      let first = (Found-position t es i place).first in
      let same = keys_set_value_at es i w in
      (set_value-IsFirst t es i w first, same, length-set_value_at es i w, (λ _. Updated-set eq laws t test es i w first), subst (IsDistinct eq) (sym same) unique, refl, refl)

  pub writes-nothing : position t (keys m) ≡ None → WritesThrough eq t m w m
  writes-nothing none =
      let lacks = Missing-position t m.entries none in
      (set_value-IsAbsent t m.entries w lacks.absent, refl, refl, (λ there. absurd (true≢false (sym there ∙ ap is_some lacks.value))), unique, refl, refl)
