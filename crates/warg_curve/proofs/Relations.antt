use Rattle.std.proofs.Common.{◌≡◌, ℕ, ◌+◌, ◌-◌, ◌*◌, ◌%◌, ◌⊎◌, inl, inr, ap, sym, ◌∙◌, arith}
use Rattle.std.proofs.lemmas.Bool.{cases_eq}
use Rattle.std.proofs.Math.Nat.{mod-lt}
use Rattle.warg_primes.proofs.Congruent.{Same, same, same_of, back, then, both_times, both_plus, same_more}
use Rattle.warg_curve.specs.Field.{prime, minus}
use Rattle.warg_curve.proofs.CurveFacts.{low, low_is, prime_pos, whole}
use Rattle.warg_curve.proofs.Slopes.{cancel, cancel_factor, minus_more, minus_nonzero}

infixl 60 ◌⊕◌
infixl 70 ◌⊙◌
-- the sum of two relations
pub ◌⊕◌ : {a b c d : ℕ} → Same prime a b → Same prime c d → Same prime (a + c) (b + d)
◌⊕◌ h k = both_plus h k

-- k times both sides of a relation
pub ◌⊙◌ : {a b : ℕ} → (k : ℕ) → Same prime a b → Same prime (k * a) (k * b)
◌⊙◌ k h = both_times (same k) h

-- a relation that a sum of others makes, as an identity of polynomials shows
pub follows : {a b c d : ℕ} → Same prime c d → a + c ≡ b + d → Same prime a b
follows h e = cancel (same_of _ _ e) h

-- (u - v) (a - b) is 0 only where a factor is
pub product_zero : (u v a b : ℕ) → Same prime (u * a + v * b) (u * b + v * a) → Same prime u v ⊎ Same prime a b
product_zero u v a b h = elim (cases_eq (u % prime) (v % prime)) [
  | inl y ↦ inl record { is = y }
  | inr o ↦
      let hu = mod-lt u prime_pos in
      let hv = mod-lt v prime_pos in
      let d : ℕ = minus (u % prime) (v % prime) in
      let m : Same prime (d + v) u =
      then (both_plus (same d) (back (whole v))) (then (minus_more (u % prime) (v % prime) hv) (whole u)) in
      let t : Same prime (a * d) (b * d) = follows (a ⊙ back m ⊕ b ⊙ m ⊕ back h) (omega arith) in
      inr (cancel_factor a b d (mod-lt (u % prime + (prime - v % prime)) prime_pos) (minus_nonzero (u % prime) (v % prime) hu hv (λ e. o (sym e))) t)
]

-- low * a is minus a
pub low_negative : (a : ℕ) → Same prime (low * a + a) 0
low_negative a =
    let e : low * a + a ≡ (low + 1) * a = omega arith in
    let m : (low + 1) * a ≡ prime * a = ap (λ v. v * a) (sym low_is) in
    let z : prime * a ≡ 0 + prime * a = omega arith in
    same_more (low * a + a) 0 a (e ∙ m ∙ z)
