use Rattle.std.proofs.Common.{◌≡◌, ◌≢◌, ℕ, zero, suc, ◌+◌, ◌-◌, ◌*◌, ◌%◌, ◌^◌, ◌<◌, inl, inr, ap, sym, ◌∙◌, refl, arith}
use Rattle.std.proofs.lemmas.Bool.{cases_eq}
use Rattle.std.proofs.Math.Nat.{mod-lt, mod-eq_of_lt, pow-zero, pow-suc}
use Rattle.warg_primes.proofs.Congruent.{Same, same, same_of, same_mod, back, then, both_times, same_more}
use Rattle.warg_primes.proofs.Divisors.{IsPrime}
use Rattle.warg_primes.proofs.Products.{product, product_none, product_more, Permutes, permuted}

-- a number with a product of 1
pub record Unit_of (p a : ℕ) : Type 0 where
  pub other : ℕ
  pub is : Same p (a * other) 1

-- from u p = v a + 1: a (p - 1) v is 1
opposite : (a c u v p : ℕ) → p ≡ c + 1 → u * p ≡ v * a + 1 → Same p (a * (c * v)) 1
opposite a c u v p l h =
    let k : c * (u * p) ≡ c * (v * a + 1) = ap (λ w. c * w) h in
    let e : a * (c * v) + p * 1 ≡ 1 + p * (c * u) = omega arith in
    then (back (same_more (a * (c * v) + p * 1) _ 1 refl)) (same_more _ _ (c * u) e)

-- each number below a prime but 0 has one
pub unit_of : (p a : ℕ) → IsPrime p → a < p → a ≢ 0 → Unit_of p a
unit_of p a h b n = elim (h.splits a) [
  | inl d ↦ absurd (elim (cases_eq d.times 0) [
    | inl z ↦ n (d.is ∙ ap (λ v. v * p) z ∙ (let e : 0 * p ≡ 0 = omega arith in e))
    | inr o ↦
        let t : ℕ = d.times - 1 in
        let e : d.times ≡ t + 1 = omega arith in
        let w : d.times * p ≡ (t + 1) * p = ap (λ v. v * p) e in
        let q : a ≡ d.times * p = d.is in
        omega arith
  ])
  | inr x ↦ elim x [
    | inl m ↦ record { other = (p - 1) * m.v; is = opposite a (p - 1) m.u m.v p (let w : 1 < p = h.above in omega arith) m.is }
    | inr m ↦ record { other = m.u; is = (let e : a * m.u ≡ 1 + p * m.v = (let g : m.u * a ≡ m.v * p + 1 = m.is in omega arith) in same_more _ _ m.v e) }
  ]
]

-- a factor that is a unit can be left out
cancel : (p a b c : ℕ) → Unit_of p c → Same p (a * c) (b * c) → Same p a b
cancel p a b c u s =
    let k : ℕ = u.other in
    let ea : a * c * k ≡ a * (c * k) = omega arith in
    let eb : b * c * k ≡ b * (c * k) = omega arith in
    let oa : a * 1 ≡ a = omega arith in
    let ob : b * 1 ≡ b = omega arith in
    let la : Same p (a * c * k) a = then (same_of _ _ ea) (then (both_times (same a) u.is) (same_of _ _ oa)) in
    let lb : Same p (b * c * k) b = then (same_of _ _ eb) (then (both_times (same b) u.is) (same_of _ _ ob)) in
    then (back la) (then (both_times s (same k)) lb)

product_unit : (p : ℕ) (f : ℕ → ℕ) (n : ℕ) → ((i : ℕ) → i < n → Unit_of p (f i)) → Unit_of p (product f n)
product_unit p f zero h = record { other = 1; is = (let e : 1 * 1 ≡ 1 = omega arith in same_of _ _ (ap (λ v. v * 1) (product_none f) ∙ e)) }
product_unit p f (suc n) h =
    let a = product_unit p f n (λ i b. h i (omega arith)) in
    let b = h n (omega arith) in
    let e : product f n * f n * (a.other * b.other) ≡ (product f n * a.other) * (f n * b.other) = omega arith in
    let o : 1 * 1 ≡ 1 = omega arith in
    record { other = a.other * b.other; is = then (same_of _ _ (ap (λ v. v * (a.other * b.other)) (product_more f n) ∙ e)) (then (both_times a.is b.is) (same_of _ _ o)) }

-- a times each factor
product_scaled : (p a : ℕ) (f g : ℕ → ℕ) (n : ℕ) → ((i : ℕ) → i < n → Same p (g i) (a * f i)) → Same p (product g n) (a ^ n * product f n)
product_scaled p a f g zero h = same_of _ _ (product_none g ∙ (let e : 1 * 1 ≡ 1 = omega arith in sym (ap (λ v. v * product f 0) (pow-zero a) ∙ ap (λ v. 1 * v) (product_none f) ∙ e)))
product_scaled p a f g (suc n) h =
    let e : a ^ n * product f n * (a * f n) ≡ a ^ n * a * (product f n * f n) = omega arith in
    then (same_of _ _ (product_more g n))
    (then (both_times (product_scaled p a f g n (λ i b. h i (omega arith))) (h n (omega arith)))
    (same_of _ _ (e ∙ ap (λ v. v * (product f n * f n)) (sym (pow-suc a n)) ∙ ap (λ v. a ^ suc n * v) (sym (product_more f n)))))

-- Fermat's little theorem
pub fermat : (p a : ℕ) → IsPrime p → a < p → a ≢ 0 → Same p (a ^ (p - 1)) 1
fermat p a h b n =
    let n1 : ℕ = p - 1 in
    let above : 1 < p = h.above in
    let f : ℕ → ℕ = λ (i : ℕ). i + 1 in
    let g : ℕ → ℕ = λ (i : ℕ). (a * (i + 1)) % p - 1 in
    let ua : Unit_of p a = unit_of p a h b n in
    let some : (i : ℕ) → i < n1 → (a * (i + 1)) % p ≢ 0 = λ i l e.
    let z : Same p (a * (i + 1)) (a * 0) = record { is = e ∙ sym (mod-eq_of_lt (omega arith)) ∙ ap (λ v. v % p) (let o : 0 ≡ a * 0 = omega arith in o) } in
    let s : Same p (i + 1) 0 = cancel p (i + 1) 0 a ua (then (same_of _ _ (let o : (i + 1) * a ≡ a * (i + 1) = omega arith in o)) (then z (same_of _ _ (let o : a * 0 ≡ 0 * a = omega arith in o)))) in
    let k : (i + 1) % p ≡ 0 % p = s.is in
    let k1 : (i + 1) % p ≡ i + 1 = mod-eq_of_lt (omega arith) in
    let k0 : 0 % p ≡ 0 = mod-eq_of_lt (omega arith) in
    absurd (omega arith) in
    let perm : Permutes g n1 = record {
      within = λ i l. (let s : (a * (i + 1)) % p ≢ 0 = some i l in let w : (a * (i + 1)) % p < p = mod-lt (a * (i + 1)) (omega arith) in omega arith);
      apart = λ i j l m e.
          let si : (a * (i + 1)) % p ≢ 0 = some i (omega arith) in
          let sj : (a * (j + 1)) % p ≢ 0 = some j m in
          let q : (a * (i + 1)) % p - 1 ≡ (a * (j + 1)) % p - 1 = e in
          let eq : (a * (i + 1)) % p ≡ (a * (j + 1)) % p = omega arith in
          let s : Same p (i + 1) (j + 1) = cancel p (i + 1) (j + 1) a ua (then (same_of _ _ (let o : (i + 1) * a ≡ a * (i + 1) = omega arith in o)) (then (record { is = eq }) (same_of _ _ (let o : a * (j + 1) ≡ (j + 1) * a = omega arith in o)))) in
          let ki : (i + 1) % p ≡ i + 1 = mod-eq_of_lt (omega arith) in
          let kj : (j + 1) % p ≡ j + 1 = mod-eq_of_lt (omega arith) in
          let k : (i + 1) % p ≡ (j + 1) % p = s.is in
          absurd (omega arith);
    } in
    let all : ℕ = product f n1 in
    let same_all : product (λ i. f (g i)) n1 ≡ all = permuted f g n1 perm in
    let scaled : Same p (product (λ i. f (g i)) n1) (a ^ n1 * all) = product_scaled p a f (λ i. f (g i)) n1 (λ i l.
    let s : (a * (i + 1)) % p ≢ 0 = some i l in
    let e : (a * (i + 1)) % p - 1 + 1 ≡ (a * (i + 1)) % p = omega arith in
    same_mod p _ (a * (i + 1)) e) in
    let unit_all : Unit_of p all = product_unit p f n1 (λ i l. unit_of p (i + 1) h (omega arith) (λ (z : i + 1 ≡ 0). absurd (omega arith))) in
    cancel p (a ^ n1) 1 all unit_all (then (back scaled) (then (same_of _ _ same_all) (same_of _ _ (let o : all ≡ 1 * all = omega arith in o))))
