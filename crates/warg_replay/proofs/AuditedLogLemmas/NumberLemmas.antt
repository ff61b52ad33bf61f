-- Numbers of gifts among holdings.
use Rattle.std.proofs.Common.{◌≡◌, ℕ, ◌+◌, ◌<◌, suc, zero, Bool, true, false, List, [], ◌∷◌, ◌++◌, take, drop, length, get_or, Option, refl, sym, ◌∙◌, ap, subst, arith, append-nil, add-one, drop-cons, if◌then◌else◌}
use Rattle.std.proofs.Math.ListN.{set}
use Rattle.std.proofs.lemmas.Bool.{cases_Bool}
use Rattle.std.proofs.lemmas.List.{take-append-drop}
use Rattle.std.specs.Cmp.{IsEquivalence}
use Rattle.std.proofs.Common.{inl, inr}
use Rattle.warg_replay.specs.declared.audited_log.grant_index.Holding.{Holding}
use Rattle.warg_replay.specs.AuditedLog.GrantIndexes.{number_in}

module _ {P : Type 0} (same : P → P → Bool) (o : IsEquivalence same) where
  -- one that is not of the permission says nothing of it
  pub passed : (hs rest : List (Holding P)) (h : Holding P) (p : P) → same h.permission p ≡ false → number_in same (hs ++ h ∷ rest) p ≡ number_in same (hs ++ rest) p
  passed [] rest h p n = ap (λ b. if b then h.given else number_in same rest p) n
  passed (x ∷ hs) rest h p n = ap (λ r. if same x.permission p then x.given else r) (passed hs rest h p n)

  pub found : (rest : List (Holding P)) (h : Holding P) (p : P) → same h.permission p ≡ true → number_in same (h ∷ rest) p ≡ h.given
  found rest h p e = ap (λ b. if b then h.given else number_in same rest p) e

  split : (hs : List (Holding P)) (i : ℕ) (h : Holding P) → i < length hs → h ≡ get_or hs i h → hs ≡ take i hs ++ h ∷ drop (suc i) hs
  split hs i h below is = sym (take-append-drop i hs) ∙ ap (λ l. take i hs ++ l) (drop-cons hs i h below ∙ ap (λ y. y ∷ drop (suc i) hs) (sym is))

  set-split : (hs : List (Holding P)) (i : ℕ) (v : Holding P) → i < length hs → set hs i v ≡ take i hs ++ v ∷ drop (suc i) hs
  set-split [] i v below = absurd (omega (arith, below))
  set-split (x ∷ hs) zero v below = refl
  set-split (x ∷ hs) (suc i) v below = ap (λ l. x ∷ l) (set-split hs i v (omega (arith, below)))

  -- the one of the permission is written
  pub number-set : (hs : List (Holding P)) (i : ℕ) (h : Holding P) (q : P) (given : Option ℕ) → i < length hs → h ≡ get_or hs i h → same h.permission q ≡ true
      → ((p : P) → same q p ≡ true → (ws : List (Holding P)) → number_in same (take i hs ++ ws) p ≡ number_in same ws p)
      → (p : P) → number_in same (set hs i (record { permission = q; given = given })) p ≡ (if same q p then given else number_in same hs p)
  number-set hs i h q given below is e before p = elim (cases_Bool (same q p)) [
    | inl t ↦ rw t (ap (λ l. number_in same l p) (set-split hs i _ below) ∙ before p t (record { permission = q; given = given } ∷ drop (suc i) hs) ∙ found (drop (suc i) hs) (record { permission = q; given = given }) p t)
    | inr f ↦ rw f (ap (λ l. number_in same l p) (set-split hs i _ below) ∙ passed (take i hs) (drop (suc i) hs) (record { permission = q; given = given }) p f
        ∙ sym (passed (take i hs) (drop (suc i) hs) h p (o.congr h.permission q p e ∙ f)) ∙ ap (λ l. number_in same l p) (sym (split hs i h below is)))
  ]

  -- one more is added, where none was of the permission
  pub number-push : (hs : List (Holding P)) (q : P) (given : Option ℕ)
      → ((p : P) → same q p ≡ true → (ws : List (Holding P)) → number_in same (hs ++ ws) p ≡ number_in same ws p)
      → (p : P) → number_in same (hs ++ record { permission = q; given = given } ∷ []) p ≡ (if same q p then given else number_in same hs p)
  number-push hs q given before p = elim (cases_Bool (same q p)) [
    | inl t ↦ rw t (before p t (record { permission = q; given = given } ∷ []) ∙ found [] (record { permission = q; given = given }) p t)
    | inr f ↦ rw f (passed hs [] (record { permission = q; given = given }) p f ∙ ap (λ l. number_in same l p) (append-nil hs))
  ]
