use Rattle.std.proofs.Common.{◌≡◌, ◌≢◌, ℕ, zero, suc, ◌+◌, ◌-◌, ◌*◌, ◌%◌, ◌<◌, inl, inr, ap, sym, ◌∙◌, refl, lit<, arith}
use Rattle.std.proofs.lemmas.Bool.{cond-true, cond-false, eq-eqb, ne_eqb, cases_eq}
use Rattle.std.proofs.Math.Nat.{mod-eq_of_lt, mod-lt}
use Rattle.warg_primes.proofs.Congruent.{Same, same, back, then, both_times, same_more}
use Rattle.warg_primes.proofs.Divisors.{IsPrime}
use Rattle.warg_primes.proofs.Chain.{prime_256}
use Rattle.warg_curve.specs.Field.{prime, times}
use Rattle.warg_curve.specs.Curve.{inverse, inverse_below}
use Rattle.warg_curve.proofs.CurveFacts.{HasInverses, low, low_is, prime_pos, whole}

one_below : 1 < prime
unfolding prime
one_below = lit< tt

pub prime_is_prime : IsPrime prime
unfolding prime
prime_is_prime = prime_256

found_first : (n a : ℕ) → times a n ≡ 1 → inverse_below (suc n) a ≡ n
unfolding inverse_below
found_first n a e = cond-true _ _ _ (eq-eqb (times a n) 1 e)

found_later : (n a : ℕ) → times a n ≢ 1 → inverse_below (suc n) a ≡ inverse_below n a
unfolding inverse_below
found_later n a e = cond-false _ _ _ (ne_eqb (times a n) 1 e)

found : (n a w : ℕ) → w < n → times a w ≡ 1 → times a (inverse_below n a) ≡ 1
found zero a w h e = absurd (omega arith)
found (suc n) a w h e = elim (cases_eq (times a n) 1) [
  | inl y ↦ ap (λ v. times a v) (found_first n a y) ∙ y
  | inr o ↦
      let differs : w ≢ n = λ (g : w ≡ n). o (ap (λ v. times a v) (sym g) ∙ e) in
      ap (λ v. times a v) (found_later n a o) ∙ found n a w (omega arith) e
]

inverse_is : (a : ℕ) → inverse a ≡ inverse_below prime a
unfolding inverse
inverse_is a = refl

-- a number that has a product of 1 has an inverse
from_product : (a w : ℕ) → Same prime (a * w) 1 → times a (inverse a) ≡ 1
from_product a w s =
    let r : ℕ = w % prime in
    let t : Same prime (a * r) 1 = then (both_times (same a) (whole w)) s in
    ap (λ v. times a v) (inverse_is a) ∙ found prime a r (mod-lt w prime_pos) (t.is ∙ mod-eq_of_lt one_below)

pub has_inverses : HasInverses
has_inverses a h n = elim (prime_is_prime.splits a) [
  | inl d ↦ absurd (elim (cases_eq d.times 0) [
    | inl z ↦ n (d.is ∙ ap (λ v. v * prime) z ∙ (let e : 0 * prime ≡ 0 = omega arith in e))
    | inr o ↦
        let t : ℕ = d.times - 1 in
        let e : d.times ≡ t + 1 = omega arith in
        let p : d.times * prime ≡ (t + 1) * prime = ap (λ v. v * prime) e in
        let q : a ≡ d.times * prime = d.is in
        omega arith
  ])
  | inr x ↦ elim x [
    | inl m ↦
        let h : m.u * prime ≡ m.v * a + 1 = m.is in
        let k : low * (m.u * prime) ≡ low * (m.v * a + 1) = ap (λ v. low * v) h in
        let l : prime ≡ low + 1 = low_is in
        from_product a (low * m.v) (then (back (more a low m.u m.v prime l h).0) (more a low m.u m.v prime l h).1)
    | inr m ↦
        let e : a * m.u ≡ 1 + prime * m.v = (let h : m.u * a ≡ m.v * prime + 1 = m.is in omega arith) in
        from_product a m.u (same_more _ _ m.v e)
  ]
]
  where
    more : (a c u v p : ℕ) → p ≡ c + 1 → u * p ≡ v * a + 1 → Same p (a * (c * v) + p * 1) (a * (c * v)) × Same p (a * (c * v) + p * 1) 1
    more a c u v p l h =
        let k : c * (u * p) ≡ c * (v * a + 1) = ap (λ w. c * w) h in
        let e : a * (c * v) + p * 1 ≡ 1 + p * (c * u) = omega arith in
        (same_more _ _ 1 refl, same_more _ _ (c * u) e)
