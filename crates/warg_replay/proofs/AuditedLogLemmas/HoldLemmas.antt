-- What is held is what the last entry that speaks of it gives.
use Rattle.std.proofs.Common.{◌≡◌, ◌↔◌, ◌⊎◌, inl, inr, ℕ, zero, suc, ◌<◌, Bool, true, false, List, [], ◌∷◌, Option, Some, None, refl, sym, ap, ◌∙◌, arith}
use Rattle.std.specs.List.{slice_get}
use Rattle.warg_log_records.specs.declared.effect.Effect.{Effect}
use Rattle.warg_log_records.specs.declared.effect.Effect.TheVariants.{Gives, Takes, Nothing}
use Rattle.warg_log_records.specs.Effects.{held_after_effect}
use Rattle.warg_replay.specs.AuditedLog.Chains.{Entry, held_by, IsHeld}

module _ {P : Type 0} (k : List ℕ) (p : P) where
  -- no entry speaks of the pair
  abbrev IsSilent : List (Entry P) → Type 0
  IsSilent h = (m : ℕ) (x : Entry P) → slice_get h m ≡ Some x → x.effect k p ≡ Nothing

  same_entry : {x y : Entry P} → Some x ≡ Some y → x ≡ y
  same_entry h = cc

  silent_more : (e : Entry P) (h : List (Entry P)) → e.effect k p ≡ Nothing → IsSilent h → IsSilent (e ∷ h)
  silent_more e h nothing rest zero x at = ap (λ (y : Entry P). y.effect k p) (sym (same_entry at)) ∙ nothing
  silent_more e h nothing rest (suc m) x at = rest m x at

  later : (n m : ℕ) → suc n < suc m → n < m
  later n m lt = omega (arith, lt)

  none_below : (n : ℕ) → n < 0 → ⊥
  none_below n lt = omega (arith, lt)

  held_later : (e : Entry P) (h : List (Entry P)) → IsHeld h k p → IsHeld (e ∷ h) k p
  held_later e h held = (suc held.0, held.1, held.2, held.3, after)
    where
      after : (m : ℕ) (x : Entry P) → suc held.0 < m → slice_get (e ∷ h) m ≡ Some x → x.effect k p ≡ Nothing
      after zero x lt at = absurd (none_below (suc held.0) lt)
      after (suc m) x lt at = held.4 m x (later held.0 m lt) at

  held_here : (e : Entry P) (h : List (Entry P)) → e.effect k p ≡ Gives → IsSilent h → IsHeld (e ∷ h) k p
  held_here e h gives silent = (0, e, refl, gives, after)
    where
      after : (m : ℕ) (x : Entry P) → 0 < m → slice_get (e ∷ h) m ≡ Some x → x.effect k p ≡ Nothing
      after zero x lt at = absurd (none_below 0 lt)
      after (suc m) x lt at = silent m x at

  at_once : (e : Entry P) (h : List (Entry P)) (b : Bool) (f : Effect) → e.effect k p ≡ f → held_after_effect f b ≡ true → IsSilent h → IsHeld (e ∷ h) k p ⊎ ((b ≡ true) × IsSilent (e ∷ h))
  at_once e h b Gives is c silent = inl (held_here e h is silent)
  at_once e h b Takes is c silent = cc
  at_once e h b Nothing is c silent = inr (c, silent_more e h is silent)

  found : (h : List (Entry P)) (b : Bool) → held_by b h k p ≡ true → IsHeld h k p ⊎ ((b ≡ true) × IsSilent h)
  found [] b held = inr (held, λ m x at. cc)
  found (e ∷ h) b held = elim (found h (held_after_effect (e.effect k p) b) held) [
    | inl rest ↦ inl (held_later e h rest)
    | inr silent ↦ at_once e h b (e.effect k p) refl silent.0 silent.1
  ]

  silent_held : (h : List (Entry P)) → IsSilent h → held_by true h k p ≡ true
  silent_held [] silent = refl
  silent_held (e ∷ h) silent = ap (λ f. held_by (held_after_effect f true) h k p) (silent 0 e refl) ∙ silent_held h (λ m x at. silent (suc m) x at)

  holds_from : (h : List (Entry P)) (b : Bool) (n : ℕ) (e : Entry P) → slice_get h n ≡ Some e → e.effect k p ≡ Gives → ((m : ℕ) (x : Entry P) → n < m → slice_get h m ≡ Some x → x.effect k p ≡ Nothing) → held_by b h k p ≡ true
  holds_from [] b n e at gives last = cc
  holds_from (y ∷ h) b zero e at gives last =
      let is : y.effect k p ≡ Gives = ap (λ (x : Entry P). x.effect k p) (same_entry at) ∙ gives in
      ap (λ f. held_by (held_after_effect f b) h k p) is ∙ silent_held h (λ m x there. last (suc m) x (omega arith) there)
  holds_from (y ∷ h) b (suc n) e at gives last = holds_from h (held_after_effect (y.effect k p) b) n e at gives (λ m x lt there. last (suc m) x (omega (arith, lt)) there)

  pub held-last : (h : List (Entry P)) → (held_by false h k p ≡ true) ↔ IsHeld h k p
  held-last h = (
    λ held. elim (found h false held) [ inl last ↦ last | inr none ↦ cc none.0 ],
    λ held. holds_from h false held.0 held.1 held.2 held.3 held.4,
  )
