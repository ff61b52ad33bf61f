-- What an index keeps, and what it misses.
use Rattle.std.specs.Prelude.{◌≡◌, ℕ, List, Option, None, Some, IfNone, IsSome, IsTrue}
use Rattle.std.specs.declared.alloc.Global.{Global}
use Rattle.std.specs.declared.boxed.Box.{Box}
use Rattle.std.proofs.Common.{inl, inr}
use mathlib.Core.Path.{sym, ap, subst, ◌∙◌}
use Rattle.std.specs.Option.{MatchOption}
use Rattle.std.specs.Ordering.{nat_cmp}
use Rattle.std.specs.declared.cmp.Ordering.{Ordering}
use Rattle.std.specs.BTreeMap.{get}
use Rattle.warg_maps.specs.declared.buckets.Slot.{Slot}
use Rattle.warg_maps.specs.declared.index.Further.{Further}
use Rattle.warg_maps.specs.declared.index.Index.{Index}
use Rattle.warg_maps.specs.Buckets.{HasPlace, HasPlaceOr, IsFull, IsFreeAt, slot_at}
use Rattle.warg_maps.specs.Index.{HasEntry, HasFar, HasFurther, HasSecond}

pub free-IsFull : (slots : List Slot) (h at : ℕ) → IsFreeAt slots h at → IsFull slots h → ⊥
free-IsFull slots h at w full = full w.table w.lane w.in_bucket (ap (λ k. (slot_at slots k).place) (sym w.index) ∙ w.is_free)

pub place-kept : (slots slots' : List Slot) (h i : ℕ) (E E' : Type 0) → (HasPlace slots h i → HasPlace slots' h i) → (IsFull slots h → IsFull slots' h) →
    (E → E') → HasPlaceOr slots h i E → HasPlaceOr slots' h i E'
place-kept slots slots' h i E E' place full on e = elim e [ inl p ↦ inl (place p) | inr q ↦ inr (full q.0, on q.1) ]

pub no-place : (slots : List Slot) (h i : ℕ) (E : Type 0) → (HasPlace slots h i → ⊥) → (IsFull slots h → E → ⊥) → HasPlaceOr slots h i E → ⊥
no-place slots h i E near far e = elim e [ inl p ↦ near p | inr q ↦ far q.0 q.1 ]

pub on-none : {T : Type 0} (o : Option T) {P Q : Type 0} → IfNone o P → (P → Q) → IfNone o Q
on-none None p f = f p
on-none (Some x) p f = tt

pub when-none : {T : Type 0} {o : Option T} {P : Type 0} → o ≡ None → IfNone o P → P
when-none {T} {o} {P} is p = subst (λ r. IfNone r P) is p

-- what a boxed part has
pub in-opened : {K : Type 0} (cmp : K → K → Ordering) (x : Index K) (b : Box (Further K) Global) → x.further ≡ Some b → (y : Further K) → y ≡ b.value → (f : ℕ) (k : K) (i : ℕ) →
    MatchOption x.further ⊥ (λ c. HasSecond cmp c.value f k i) → HasSecond cmp y f k i
in-opened {K} cmp x b is y same f k i there =
    let here : HasSecond cmp b.value f k i = subst (λ (o : Option (Box (Further K) Global)). MatchOption o ⊥ (λ c. HasSecond cmp c.value f k i)) is there in
    subst (λ z. HasSecond cmp z f k i) (sym same) here

-- what an index knows is what its parts know
module _ {K : Type 0} (cmp : K → K → Ordering) (x y : Further K) (f : ℕ) (k : K) (i : ℕ) where
  pub far-as : x.far ≡ y.far → x.crowd ≡ y.crowd → HasFar cmp x f k i → HasFar cmp y f k i
  far-as far crowd e =
      record {
        entry = elim e.entry [
          | inl own ↦ inl (subst (λ m. get nat_cmp m f ≡ Some i) far own)
          | inr other ↦ inr (subst (λ m. IsSome (get nat_cmp m f)) far other.0, subst (λ m. get cmp m k ≡ Some i) crowd other.1)
        ];
      }

module _ {K : Type 0} (cmp : K → K → Ordering) (x y : Index K) (f : ℕ) (k : K) (i : ℕ) where
  pub further-as : x.further ≡ y.further → x.lacks_places ≡ y.lacks_places → HasFurther cmp x f k i → HasFurther cmp y f k i
  further-as further lacks e =
      record {
        entry = elim e.entry [
          | inl none ↦ inl (subst IsTrue lacks none)
          | inr there ↦ inr (subst (λ o. MatchOption o ⊥ (λ b. HasSecond cmp b.value f k i)) further there)
        ];
      }

  pub entry-as : (h : ℕ) → x.near.items ≡ y.near.items → x.further ≡ y.further → x.lacks_places ≡ y.lacks_places → HasEntry cmp x h f k i → HasEntry cmp y h f k i
  entry-as h near further lacks e =
      record { entry = place-kept _ _ _ i _ _ (subst (λ s. HasPlace s h i) near) (subst (λ s. IsFull s h) near) (further-as further lacks) e.entry }
