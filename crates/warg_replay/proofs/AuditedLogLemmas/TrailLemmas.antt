-- A trail, followed back.
use Rattle.std.proofs.Common.{◌≡◌, ℕ, ◌<◌, List, [], ◌∷◌, ◌++◌, get_or, Some, refl, sym, ap, ◌∙◌, subst, append_assoc, arith}
use Rattle.std.specs.List.{slice_get}
use Rattle.std.proofs.lemmas.Option.{get_or_from_slice_get}
use Rattle.warg_replay.specs.declared.audited_log.grant_index.GrantEvent.{GrantEvent}
use Rattle.warg_replay.specs.declared.audited_log.link.Link.{Link}
use Rattle.warg_replay.specs.AuditedLog.GrantIndexes.{IsTrail}

module _ (gifts : List GrantEvent) (n : ℕ) (d : GrantEvent) where
  abbrev pub here : GrantEvent
  here = get_or gifts n d

  here-is : (g : GrantEvent) → slice_get gifts n ≡ Some g → here ≡ g
  here-is g at = get_or_from_slice_get gifts n g d at

  lower : (a b c : ℕ) → a ≡ b → b < c → a < c
  lower a b c e lt = subst (λ x. x < c) (sym e) lt

  -- it goes on past a gift that points to another
  pub trail-step : (ls : List Link) → IsTrail gifts n ls → (here.by ≡ n → ⊥) → (rest : List Link) × (ls ≡ here.place ∷ rest) × IsTrail gifts here.by rest × (here.by < n)
  trail-step [] t more = absurd t
  trail-step (l ∷ []) t more = absurd (more (ap (λ (g : GrantEvent). g.by) (here-is t.0 t.1) ∙ t.3))
  trail-step (l ∷ m ∷ ms) t more =
      let is = here-is t.0 t.1 in
      (m ∷ ms, ap (λ (x : Link). x ∷ m ∷ ms) (sym t.2 ∙ ap (λ (g : GrantEvent). g.place) (sym is)), subst (λ (j : ℕ). IsTrail gifts j (m ∷ ms)) (ap (λ (g : GrantEvent). g.by) (sym is)) t.4, lower here.by t.0.by n (ap (λ (g : GrantEvent). g.by) is) t.3)

  itself : (a : ℕ) → a < n → a ≡ n → ⊥
  itself a lt e = omega (arith, lt, e)

  -- and ends at one that points to itself
  pub trail-end : (ls : List Link) → IsTrail gifts n ls → here.by ≡ n → ls ≡ here.place ∷ []
  trail-end [] t own = absurd t
  trail-end (l ∷ []) t own = ap (λ (x : Link). x ∷ []) (sym t.2 ∙ ap (λ (g : GrantEvent). g.place) (sym (here-is t.0 t.1)))
  trail-end (l ∷ m ∷ ms) t own = absurd (itself t.0.by t.3 (ap (λ (g : GrantEvent). g.by) (sym (here-is t.0 t.1)) ∙ own))

  -- one link more was passed
  pub passed-more : (ls links more rest : List Link) → ls ≡ links ++ rest → more ≡ links ++ here.place ∷ [] → IsTrail gifts n rest → (here.by ≡ n → ⊥) → (left : List Link) × IsTrail gifts here.by left × (ls ≡ more ++ left)
  passed-more ls links more rest is pushed t goes_on =
      let s = trail-step rest t goes_on in
      (s.0, s.2, is ∙ ap (λ l. links ++ l) s.1 ∙ sym (append_assoc links (here.place ∷ []) s.0) ∙ ap (λ l. l ++ s.0) (sym pushed))

  pub passed-all : (ls links more rest : List Link) → ls ≡ links ++ rest → more ≡ links ++ here.place ∷ [] → IsTrail gifts n rest → here.by ≡ n → more ≡ ls
  passed-all ls links more rest is pushed t own = pushed ∙ ap (λ l. links ++ l) (sym (trail-end rest t own)) ∙ sym is
