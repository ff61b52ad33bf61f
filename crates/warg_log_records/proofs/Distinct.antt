-- Inserting the items of a list in turn keeps each where it stands first.
use Rattle.std.proofs.Common.{ℕ, ◌+◌, ◌<◌, length, take, get_or, add-one, Option, ◌≡◌, List, [], ◌∷◌, ◌++◌, Bool, true, false, cond, refl, sym, ap, ◌∙◌, append_assoc, inl, inr}
use Rattle.std.specs.Prelude.{not, filter, ◌||◌}
use Rattle.std.specs.List.{list_any, filter_map}
use Rattle.std.proofs.Math.Seq.{take-suc}
use Rattle.std.proofs.lemmas.List.Elements.{filter_map-append}
use Rattle.std.proofs.lemmas.List.Sums.{fold-append}
use Rattle.std.specs.Cmp.{IsEquivalence}
use Rattle.std.proofs.lemmas.Bool.{cases_Bool}
use Rattle.std.proofs.lemmas.List.{append-nil}
use Rattle.std.proofs.lemmas.List.Folds.{list_any-append}
use Rattle.indexmap.specs.IndexSet.{insert_key, insert_all}
use Rattle.warg_envelope.specs.Mentions.{distinct}

module _ {X : Type 0} where
  twice-step : (p r : X → Bool) (y : X) (b : Bool) (l m : List X) → cond b (p y) false ≡ r y → filter p l ≡ m → filter p (cond b (y ∷ l) l) ≡ cond (r y) (y ∷ m) m
  twice-step p r y true l m e h = λ i. cond (e i) (y ∷ h i) (h i)
  twice-step p r y false l m e h = h ∙ (λ i. cond (e i) (y ∷ m) m)

  -- what fails the first test anyway need not be taken out
  filter-twice : (p q r : X → Bool) → ((y : X) → cond (q y) (p y) false ≡ r y) → (ys : List X) → filter p (filter q ys) ≡ filter r ys
  filter-twice p q r h [] = refl
  filter-twice p q r h (y ∷ ys) = twice-step p r y (q y) (filter q ys) (filter r ys) (h y) (filter-twice p q r h ys)

  filter-at : (p : X → Bool) (x : X) (xs : List X) (b : Bool) → p x ≡ b → filter p (x ∷ xs) ≡ cond b (x ∷ filter p xs) (filter p xs)
  filter-at p x xs b e = λ i. cond (e i) (x ∷ filter p xs) (filter p xs)

  filter-true : (ys : List X) → filter (λ y. true) ys ≡ ys
  filter-true [] = refl
  filter-true (y ∷ ys) = ap (λ (l : List X). y ∷ l) (filter-true ys)

  module _ (same : X → X → Bool) (laws : IsEquivalence same) where
    -- is not among these
    abbrev is_new : List X → X → Bool
    is_new ks y = not (list_any (same y) ks)

    any_alike : (x y : X) (ks : List X) → same x y ≡ true → list_any (same x) ks ≡ list_any (same y) ks
    any_alike x y ks e = λ i. list_any (λ z. laws.congr x y z e i) ks

    seen_before : (ks : List X) (x : X) → list_any (same x) ks ≡ true → (y : X) → cond (not (same x y)) (is_new ks y) false ≡ is_new ks y
    seen_before ks x h y =
        elim (cases_Bool (same x y)) [
          | inl e ↦ (λ i. cond (not (e i)) (is_new ks y) false) ∙ ap not (sym h ∙ any_alike x y ks e)
          | inr e ↦ λ i. cond (not (e i)) (is_new ks y) false
        ]

    or_false : (a b : Bool) → cond (not a) (not b) false ≡ not (b || (a || false))
    or_false true true = refl
    or_false true false = refl
    or_false false true = refl
    or_false false false = refl

    one_more : (ks : List X) (x y : X) → cond (not (same x y)) (is_new ks y) false ≡ is_new (ks ++ x ∷ []) y
    one_more ks x y = or_false (same x y) (list_any (same y) ks) ∙ (λ i. not (list_any (same y) ks || (laws.symm x y i || false))) ∙ ap not (sym (list_any-append (same y) ks (x ∷ [])))

    pub insert_all-distinct : (ks xs : List X) → insert_all same ks xs ≡ ks ++ filter (is_new ks) (distinct same xs)
    insert_all-distinct ks [] = sym (append-nil ks)
    insert_all-distinct ks (x ∷ xs) =
        elim (cases_Bool (list_any (same x) ks)) [
          | inl e ↦ (λ i. insert_all same (cond (e i) ks (ks ++ x ∷ [])) xs) ∙ insert_all-distinct ks xs
              ∙ ap (λ (l : List X). ks ++ l) (sym (filter-at (is_new ks) x (filter (λ y. not (same x y)) (distinct same xs)) false (ap not e)
              ∙ filter-twice (is_new ks) (λ y. not (same x y)) (is_new ks) (seen_before ks x e) (distinct same xs)))
          | inr e ↦ (λ i. insert_all same (cond (e i) ks (ks ++ x ∷ [])) xs) ∙ insert_all-distinct (ks ++ x ∷ []) xs
              ∙ append_assoc ks (x ∷ []) _
              ∙ ap (λ (l : List X). ks ++ l) (sym (filter-at (is_new ks) x (filter (λ y. not (same x y)) (distinct same xs)) true (ap not e)
              ∙ ap (λ (l : List X). x ∷ l) (filter-twice (is_new ks) (λ y. not (same x y)) (is_new (ks ++ x ∷ [])) (one_more ks x) (distinct same xs))))
        ]

    pub insert_all-nil : (xs : List X) → insert_all same [] xs ≡ distinct same xs
    insert_all-nil xs = insert_all-distinct [] xs ∙ filter-true (distinct same xs)

-- the items of one more entry
pub insert_all-next : {E X : Type 0} (same : X → X → Bool) (content : E → Option X) (es : List E) (i : ℕ) (e : E) → i < length es → e ≡ get_or es i e
    → insert_all same (insert_all same [] (filter_map content (take i es))) (filter_map content (e ∷ [])) ≡ insert_all same [] (filter_map content (take (i + 1) es))
insert_all-next same content es i e below at =
    let front : take (i + 1) es ≡ take i es ++ e ∷ [] = rw add-one (take-suc es i e below ∙ ap (λ x. take i es ++ x ∷ []) (sym at)) in
    sym (ap (λ l. insert_all same [] (filter_map content l)) front
    ∙ ap (insert_all same []) (filter_map-append content (take i es) (e ∷ []))
    ∙ fold-append (insert_key same) [] (filter_map content (take i es)) (filter_map content (e ∷ [])))
