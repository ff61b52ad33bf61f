-- What writes to permissions under key ids do to what they say.
use Rattle.std.proofs.Common.{◌≡◌, ℕ, List, Bool, true, false, cond, ◌&&◌, ◌||◌, Option, Some, refl, sym, ap, ◌∙◌, inl, inr, not, true≢false, [], ◌∷◌, ◌+◌, ◌<◌, length, take, drop, get_or, add-one, drop-cons, is_some}
use Rattle.std.proofs.lemmas.List.{take_more}
use Rattle.std.proofs.lemmas.List.Folds.{list_any-append}
use Rattle.std.specs.Option.{option_map_or}
use Rattle.warg_permissions.proofs.KeyMapsLemmas.Missing.{first_missing-more}
use Rattle.std.specs.Str.{bytes_eq}
use Rattle.std.proofs.lemmas.Bool.{cases_Bool}
use Rattle.std.proofs.lemmas.Slice.Eq.{bytes_eq-Decides}
use Rattle.std.specs.List.{list_any}
use Rattle.warg_permissions.specs.Permissions.{lists}
use Rattle.warg_permissions.specs.KeyMaps.Rights.{first_missing}

-- one of two, as two steps
two_steps : (x l h : Bool) → cond x false (cond l false h) ≡ cond (l || (x || false)) false h
two_steps true true h = refl
two_steps true false h = refl
two_steps false true h = refl
two_steps false false h = refl

held_now : (l h : Bool) → cond l false h ≡ true → (h && not l) ≡ true
held_now true h g = absurd (true≢false (sym g))
held_now false true g = refl
held_now false false g = g

-- what a set has before all, before and after one more permission is taken from it
module _ {P : Type 0} (same : P → P → Bool) (old mid new : P → Bool) (ps : List P) (i : ℕ) (d : P) (within : i < length ps) (at : d ≡ get_or ps i d)
    (sofar : (p : P) → mid p ≡ cond (lists same (take i ps) p) false (old p)) where
  pub taken-more : ((p : P) → new p ≡ cond (same d p) false (mid p)) → (p : P) → new p ≡ cond (lists same (take (i + 1) ps) p) false (old p)
  taken-more taken p =
      taken p ∙ ap (λ x. cond (same x p) false (mid p)) at ∙ ap (λ h. cond (same (get_or ps i d) p) false h) (sofar p)
      ∙ two_steps (same (get_or ps i d) p) (lists same (take i ps) p) (old p)
      ∙ ap (λ l. cond l false (old p)) (sym (list_any-append (λ x. same x p) (take i ps) (get_or ps i d ∷ [])) ∙ ap (λ l. lists same l p) (sym (take_more ps i d within)))

  pub missing-more : mid d ≡ true → first_missing same old (take i ps) (drop i ps) ≡ first_missing same old (take (i + 1) ps) (drop (i + 1) ps)
  missing-more held_d =
      let held : mid (get_or ps i d) ≡ true = ap mid (sym at) ∙ held_d in
      let rest : drop i ps ≡ get_or ps i d ∷ drop (i + 1) ps = rw add-one (drop-cons ps i d within) in
      ap (first_missing same old (take i ps)) rest
      ∙ first_missing-more same old (take i ps) (get_or ps i d) (drop (i + 1) ps)
      (held_now (lists same (take i ps) (get_or ps i d)) (old (get_or ps i d)) (sym (sofar (get_or ps i d)) ∙ held))
      ∙ ap (λ e. first_missing same old e (drop (i + 1) ps)) (sym (take_more ps i d within))

or-cond : (h l : Bool) → (h || l) ≡ cond l true h
or-cond true true = refl
or-cond true false = refl
or-cond false true = refl
or-cond false false = refl

or-both : (h : Bool) → true ≡ (h || true)
or-both true = refl
or-both false = refl

or-none : (h : Bool) → h ≡ (h || false)
or-none true = refl
or-none false = refl

-- the permissions at the id are written
module _ {P : Type 0} (same : P → P → Bool) (old new : List ℕ → Option (List P)) (id : List ℕ) (t : List P) (ps : List P)
    (updates : (k : List ℕ) → new k ≡ cond (bytes_eq id k) (Some t) (old k)) where
  abbrev held : (List ℕ → Option (List P)) → List ℕ → P → Bool
  held f k p = option_map_or (λ ps. list_any (same p) ps) (f k) false

  pub entries-give : (k : List ℕ) → is_some (new k) ≡ (is_some (old k) || bytes_eq id k)
  entries-give k = elim (cases_Bool (bytes_eq id k)) [
    | inl e ↦ rw (updates k, e) (or-both (is_some (old k)))
    | inr e ↦ rw (updates k, e) (or-none (is_some (old k)))
  ]

  -- the permissions are added
  pub holds-give : ((p : P) → list_any (same p) t ≡ (held old id p || lists same ps p))
      → (k : List ℕ) (p : P) → held new k p ≡ cond (bytes_eq id k && lists same ps p) true (held old k p)
  holds-give gave k p = elim (cases_Bool (bytes_eq id k)) [
    | inl e ↦ rw (updates k, e) (gave p ∙ or-cond (held old id p) (lists same ps p) ∙ ap (λ x. cond (lists same ps p) true (held old x p)) ((bytes_eq-Decides id k).0 e))
    | inr e ↦ rw (updates k, e) refl
  ]

  -- or taken
  pub holds-take : ((p : P) → list_any (same p) t ≡ cond (lists same ps p) false (held old id p))
      → (k : List ℕ) (p : P) → held new k p ≡ cond (bytes_eq id k && lists same ps p) false (held old k p)
  holds-take taken k p = elim (cases_Bool (bytes_eq id k)) [
    | inl e ↦ rw (updates k, e) (taken p ∙ ap (λ x. cond (lists same ps p) false (held old x p)) ((bytes_eq-Decides id k).0 e))
    | inr e ↦ rw (updates k, e) refl
  ]

  pub entries-take : is_some (old id) ≡ true → (k : List ℕ) → is_some (new k) ≡ is_some (old k)
  entries-take there k = elim (cases_Bool (bytes_eq id k)) [
    | inl e ↦ rw (updates k, e) (sym there ∙ ap (λ x. is_some (old x)) ((bytes_eq-Decides id k).0 e))
    | inr e ↦ rw (updates k, e) refl
  ]
