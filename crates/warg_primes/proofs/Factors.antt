use Rattle.std.proofs.Common.{◌≡◌, ℕ, ◌+◌, ◌-◌, ◌*◌, ◌<◌, inl, inr, ap, ◌∙◌, arith}
use Rattle.std.proofs.lemmas.Bool.{cases_eq, cases_lt}
use Rattle.warg_primes.proofs.Divisors.{IsPrime}
use Rattle.warg_primes.specs.Primes.{HasNoFactors}

-- what divides two numbers that are neighbours is 1
neighbours : (a k m : ℕ) → a * k ≡ a * m + 1 → a ≡ 1
neighbours a k m h = elim (cases_lt m k) [
  | inl l ↦
      let j : ℕ = k - (m + 1) in
      let e : a * k ≡ a * (m + 1 + j) = ap (λ v. a * v) (let f : k ≡ m + 1 + j = omega arith in f) in
      elim (cases_eq a 0) [
        | inl z ↦
            let e1 : a * k ≡ 0 * k = ap (λ v. v * k) z in
            absurd (omega arith)
        | inr o ↦ omega arith
      ]
  | inr l ↦
      let j : ℕ = m - k in
      let e : a * m ≡ a * (k + j) = ap (λ v. a * v) (let f : m ≡ k + j = omega arith in f) in
      absurd (omega arith)
]

-- a factor that is a multiple of the product is the product
whole_factor : (p a b t : ℕ) → 1 < p → p ≡ a * b → a ≡ t * p → a ≡ p
whole_factor p a b t h e d =
    let f : p * (t * b) ≡ p * 1 =
    (let g : a * b ≡ t * p * b = ap (λ v. v * b) d in omega arith) in
    let one : t ≡ 1 = neighbours t b 0 (let s : t * b ≡ 1 = same_factor p (t * b) h f in omega arith) in
    d ∙ ap (λ v. v * p) one ∙ (let g : 1 * p ≡ p = omega arith in g)
  where
    same_factor : (p v : ℕ) → 1 < p → p * v ≡ p * 1 → v ≡ 1
    same_factor p v h e = elim (cases_eq v 0) [
      | inl z ↦
          let g : p * v ≡ p * 0 = ap (λ w. p * w) z in
          absurd (omega arith)
      | inr o ↦
          let j : ℕ = v - 1 in
          let g : p * v ≡ p * (1 + j) = ap (λ w. p * w) (let f : v ≡ 1 + j = omega arith in f) in
          elim (cases_eq j 0) [
            | inl z ↦ omega arith
            | inr n ↦
                let i : ℕ = j - 1 in
                let k : p * j ≡ p * (1 + i) = ap (λ w. p * w) (let f : j ≡ 1 + i = omega arith in f) in
                absurd (omega arith)
          ]
    ]

-- a number that is prime in Bezout's form has no factors
pub no_factors : (p : ℕ) → IsPrime p → HasNoFactors p
no_factors p h = (
  h.above,
  λ a b e. elim (h.splits a) [
    | inl d ↦ inr (whole_factor p a b d.times h.above e d.is)
    | inr x ↦ elim x [
      | inl m ↦
          inl (neighbours a (m.u * b) m.v
          (let f : m.u * p ≡ m.u * (a * b) = ap (λ v. m.u * v) e in let g : m.u * p ≡ m.v * a + 1 = m.is in omega arith))
      | inr m ↦
          inl (neighbours a m.u (m.v * b)
          (let f : m.v * p ≡ m.v * (a * b) = ap (λ v. m.v * v) e in let g : m.u * a ≡ m.v * p + 1 = m.is in omega arith))
    ]
  ],
)
