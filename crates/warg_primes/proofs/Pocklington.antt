use Rattle.std.proofs.Common.{◌≡◌, ℕ, ◌+◌, ◌-◌, ◌*◌, ◌^◌, ◌<◌, ◌≤◌, ◌⊎◌, inl, inr, ap, sym, ◌∙◌, arith}
use Rattle.std.proofs.lemmas.Bool.{cases_eq}
use Rattle.std.proofs.Math.Nat.{mul-le-mul, mul-sub, le_refl}
use Rattle.warg_primes.proofs.Congruent.{Same, same, same_of, back, then, both_times, both_plus, same_more}
use Rattle.warg_primes.proofs.Divisors.{Divides, Mix, common, IsPrime}
use Rattle.warg_primes.proofs.Powers.{one_times_left, pow_times, same_below, one_not_zero, one_by_mix, Cycle, cycle}

-- a number with no divisor from 2 to f is prime, where it is below (f + 1) ^ 2
pub prime_from : (n f : ℕ) → 1 < n → n < (f + 1) * (f + 1) → ((d : ℕ) → Divides d n → 1 < d → f < d) → IsPrime n
prime_from n f h b large = record {
  above = h;
  splits = λ a.
      let c = common n a in
      let g : ℕ = c.g in
      let m : ℕ = c.left.times in
      let e : n ≡ m * g = c.left.is in
      elim (cases_eq g 1) [
        | inl one ↦ inr (elim c.mix [ inl x ↦ inl record { u = x.u; v = x.v; is = x.is ∙ ap (λ w. x.v * a + w) one } | inr x ↦ inr record { u = x.u; v = x.v; is = x.is ∙ ap (λ w. x.v * n + w) one } ])
        | inr other ↦ elim (cases_eq g 0) [
          | inl none ↦ absurd (let z : m * g ≡ m * 0 = ap (λ w. m * w) none in omega arith)
          | inr some ↦ elim (cases_eq m 1) [
            | inl whole ↦
                let z : m * g ≡ 1 * g = ap (λ w. w * g) whole in
                let gn : g ≡ n = omega arith in
                inl record { times = c.right.times; is = c.right.is ∙ ap (λ w. c.right.times * w) gn }
            | inr part ↦ elim (cases_eq m 0) [
              | inl none ↦ absurd (let z : m * g ≡ 0 * g = ap (λ w. w * g) none in omega arith)
              | inr more ↦
                  let lg : f < g = large g c.left (omega arith) in
                  let swap : n ≡ g * m = omega arith in
                  let lm : f < m = large m record { times = g; is = swap } (omega arith) in
                  let p : (f + 1) * (f + 1) ≤ m * g = mul-le-mul {n₁ = f + 1} {m₁ = f + 1} {n₂ = m} {m₂ = g} (omega arith) (omega arith) in
                  absurd (omega arith)
            ]
          ]
        ]
      ];
}

less_w : (d w : ℕ) → 1 < d → Same d (w + 0) (w + 1) → Same d 0 1
less_w d w h s =
    let c : ℕ = d - 1 in
    let ed : d ≡ c + 1 = omega arith in
    let dw : d * w ≡ (c + 1) * w = ap (λ v. v * w) ed in
    let e1 : w + 0 + c * w ≡ 0 + d * w = omega arith in
    let e2 : w + 1 + c * w ≡ 1 + d * w = omega arith in
    then (back (same_more _ 0 w e1)) (then (both_plus s (same (c * w))) (same_more _ 1 w e2))

-- q divides the length of each cycle modulo a divisor of n + 1, where q * r is n, and a ^ r - 1 has the inverse w
pub divides_cycle : (n q r a w d k : ℕ) → IsPrime q → n ≡ q * r → Same (n + 1) (a ^ n) 1 → Same (n + 1) (a ^ r * w) (w + 1) →
    Divides d (n + 1) → 1 < d → Same d (a ^ k) 1 → Divides q k
divides_cycle n q r a w d k p e h g dn d1 s =
    let b : ℕ = a ^ r in
    let bq : Same d (b ^ q) 1 =
    let swap : r * q ≡ n = omega arith in
    then (same_of _ _ (sym (pow_times a r q) ∙ ap (λ v. a ^ v) swap)) (same_below (n + 1) d (a ^ n) 1 (omega arith) dn h) in
    let bk : Same d (b ^ k) 1 = then (same_of _ _ (sym (pow_times a r k))) (one_times_left d a k r s) in
    let bad : Same d b 1 → ⊥ = λ (o : Same d b 1).
    let w1 : 1 * w ≡ w + 0 = omega arith in
    let more : Same d (w + 0) (w + 1) = then (same_of _ _ (sym w1)) (then (both_times (back o) (same w)) (same_below (n + 1) d (a ^ r * w) (w + 1) (omega arith) dn g)) in
    one_not_zero d d1 (back (less_w d w d1 more)) in
    elim (p.splits k) [
      | inl y ↦ y
      | inr x ↦ absurd (elim x [ inl m ↦ bad (one_by_mix d b q k m bq bk) | inr m ↦ bad (one_by_mix d b k q m bk bq) ])
    ]

-- a number that divides a product and has no divisor with its one factor divides the other
pub gauss : (s i q k : ℕ) → Mix s q 1 ⊎ Mix q s 1 → k ≡ i * q → Divides s k → Divides s i
gauss s i q k x e y =
    let t : ℕ = y.times in
    let ty : k ≡ t * s = y.is in
    elim x [
      | inl m ↦
          let u : ℕ = m.u in
          let v : ℕ = m.v in
          let h : u * s * i ≡ (v * q + 1) * i = ap (λ w. w * i) m.is in
          let hk : v * k ≡ v * (i * q) = ap (λ w. v * w) e in
          let ht : v * k ≡ v * (t * s) = ap (λ w. v * w) ty in
          let sub : s * (u * i - v * t) ≡ s * (u * i) - s * (v * t) = mul-sub s (u * i) (v * t) in
          record { times = u * i - v * t; is = omega arith }
      | inr m ↦
          let u : ℕ = m.u in
          let v : ℕ = m.v in
          let h : u * q * i ≡ (v * s + 1) * i = ap (λ w. w * i) m.is in
          let hk : u * k ≡ u * (i * q) = ap (λ w. u * w) e in
          let ht : u * k ≡ u * (t * s) = ap (λ w. u * w) ty in
          let sub : s * (u * t - v * i) ≡ s * (u * t) - s * (v * i) = mul-sub s (u * t) (v * i) in
          record { times = u * t - v * i; is = omega arith }
    ]

le_of_divides : (q k : ℕ) → Divides q k → 0 < k → q ≤ k
le_of_divides q k h p =
    let e : k ≡ h.times * q = h.is in
    elim (cases_eq h.times 0) [
      | inl z ↦ absurd (let w : h.times * q ≡ 0 * q = ap (λ v. v * q) z in omega arith)
      | inr o ↦ let w : 1 * q ≤ h.times * q = mul-le-mul {n₁ = 1} {m₁ = q} {n₂ = h.times} {m₂ = q} (omega arith) (le_refl q) in omega arith
    ]

-- what a certificate says: n is q * r, and a is one whose n-th power is 1 and whose r-th power is not
pub record Witness (n q r a w : ℕ) : Type 0 where
  pub split : n ≡ q * r
  pub one : Same (n + 1) (a ^ n) 1
  pub other : Same (n + 1) (a ^ r * w) (w + 1)

pub prime_by_one : (n q r a w : ℕ) → IsPrime q → Witness n q r a w → 0 < n → n + 1 < (q + 1) * (q + 1) → IsPrime (n + 1)
prime_by_one n q r a w p c pos b = prime_from (n + 1) q (omega arith) b (λ d dn d1.
    let dl : d ≤ n + 1 = le_of_divides d (n + 1) dn (omega arith) in
    let y : Cycle a d = cycle a n d d1 dl (same_below (n + 1) d (a ^ n) 1 (omega arith) dn c.one) in
    let l : q ≤ y.length = le_of_divides q y.length (divides_cycle n q r a w d y.length p c.split c.one c.other dn d1 y.is) y.some in
    let k : y.length < d = y.below in
    omega arith)

pub prime_by_two : (n q r s t a v w : ℕ) → IsPrime q → IsPrime s → Mix s q 1 ⊎ Mix q s 1 → Witness n q r a w → Witness n s t a v → 0 < n → n + 1 < (s * q + 1) * (s * q + 1) → IsPrime (n + 1)
prime_by_two n q r s t a v w p p' x c c' pos b = prime_from (n + 1) (s * q) (omega arith) b (λ d dn d1.
    let dl : d ≤ n + 1 = le_of_divides d (n + 1) dn (omega arith) in
    let y : Cycle a d = cycle a n d d1 dl (same_below (n + 1) d (a ^ n) 1 (omega arith) dn c.one) in
    let k : ℕ = y.length in
    let dq : Divides q k = divides_cycle n q r a w d k p c.split c.one c.other dn d1 y.is in
    let ds : Divides s k = divides_cycle n s t a v d k p' c'.split c'.one c'.other dn d1 y.is in
    let di : Divides s dq.times = gauss s dq.times q k x dq.is ds in
    let e : k ≡ di.times * s * q = dq.is ∙ ap (λ z. z * q) di.is in
    let e' : k ≡ di.times * (s * q) = omega arith in
    let l : s * q ≤ k = le_of_divides (s * q) k record { times = di.times; is = e' } y.some in
    let below : k < d = y.below in
    omega arith)
