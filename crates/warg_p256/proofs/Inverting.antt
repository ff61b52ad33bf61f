use Rattle.std.proofs.Common.{◌≡◌, ◌≢◌, ℕ, zero, suc, ◌+◌, ◌-◌, ◌*◌, ◌/◌, ◌%◌, ◌^◌, ◌<◌, ◌≤◌, lit<, inl, inr, Bool, true, false, ap, sym, ◌∙◌, refl, arith}
use Rattle.std.proofs.lemmas.Bool.{cases_eq, cases_lt}
use Rattle.std.proofs.Math.Nat.{mod-eq_of_lt, mod-lt, pow-suc, mul-zero, mul-le-mul_right}
use Rattle.warg_primes.proofs.Congruent.{Same, same, same_of, same_mod, back, then, both_times, both_plus, same_more}
use Rattle.warg_primes.proofs.Divisors.{Divides}
use Rattle.warg_curve.specs.Order.{order}
use Rattle.warg_p256.proofs.Scalars.{order_pos}
use Rattle.warg_p256.proofs.Signatures.{order_is_prime, inverse_is, one_inverse}

-- Euclid's algorithm on a and the order: s * b stays u and r * b stays v, modulo the order
pub record Euclid (a b u v s r : ℕ) : Type 0 where
  pub first : Same order (s * b) u
  pub second : Same order (r * b) v
  pub odd : v % 2 ≡ 1
  pub common : (d : ℕ) → Divides d u → Divides d v → Divides d a × Divides d order

-- the order is odd
order_odd : order % 2 ≡ 1
unfolding order
order_odd = refl

-- 1 / 2 modulo the order
order_half : (order + 1) / 2 * 2 ≡ order + 1
unfolding order
order_half = refl

-- the order is odd, so 2 can be left out
cancel_two : (x y : ℕ) → Same order (x * 2) (y * 2) → Same order x y
cancel_two x y s =
    let h : ℕ = (order + 1) / 2 in
    let e : h * 2 ≡ order + 1 = order_half in
    let ex : x * (h * 2) ≡ x * (order + 1) = ap (λ v. x * v) e in
    let ey : y * (h * 2) ≡ y * (order + 1) = ap (λ v. y * v) e in
    let fx : x * 2 * h ≡ x + order * x = omega arith in
    let fy : y * 2 * h ≡ y + order * y = omega arith in
    then (back (same_more (x * 2 * h) x x fx)) (then (both_times s (same h)) (same_more (y * 2 * h) y y fy))

-- what is added on both sides can be left out
cancel_plus : (x y z : ℕ) → Same order (x + z) (y + z) → Same order x y
cancel_plus x y z s =
    let q : ℕ = order - 1 in
    let above : 0 < order = order_pos in
    let e : q + 1 ≡ order = omega arith in
    let ez : (q + 1) * z ≡ order * z = ap (λ v. v * z) e in
    let fx : x + z + q * z ≡ x + order * z = omega arith in
    let fy : y + z + q * z ≡ y + order * z = omega arith in
    then (back (same_more (x + z + q * z) x z fx)) (then (both_plus s (same (q * z))) (same_more (y + z + q * z) y z fy))

-- the start; c is 2 ^ 256 in Montgomery's form
pub euclid_start : (a b c : ℕ) → Same order (c * b) a → Euclid a b a order c 0
euclid_start a b c s =
    let none : 0 * b ≡ 0 = omega arith in
    let whole : order ≡ 0 + order * 1 = omega arith in
    record { first = s; second = then (same_of _ _ none) (back (same_more order 0 1 whole)); odd = order_odd; common = λ d x y. (x, y) }

-- u halved
pub euclid_even : (a b u v s r half t : ℕ) → Euclid a b u v s r → u ≡ half * 2 → (t * 2) % order ≡ s → Euclid a b half v t r
euclid_even a b u v s r half t k e f =
    let st : Same order (t * 2) s = back (same_mod order s (t * 2) (sym f)) in
    let g : t * b * 2 ≡ t * 2 * b = omega arith in
    let twice : Same order (t * b * 2) (half * 2) = then (same_of _ _ g) (then (both_times st (same b)) (then k.first (same_of _ _ e))) in
    record {
      first = cancel_two (t * b) half twice;
      second = k.second;
      odd = k.odd;
      common = λ d x y. k.common d (record {
        times = x.times * 2;
        is = e ∙ ap (λ w. w * 2) x.is ∙ (let g2 : x.times * d * 2 ≡ x.times * 2 * d = omega arith in g2);
      }) y;
    }

-- v taken from u
pub euclid_less : (a b u v s r rest t : ℕ) → Euclid a b u v s r → rest + v ≡ u → (t + r) % order ≡ s → Euclid a b rest v t r
euclid_less a b u v s r rest t k e f =
    let st : Same order (t + r) s = back (same_mod order s (t + r) (sym f)) in
    let g : t * b + r * b ≡ (t + r) * b = omega arith in
    let sum : Same order (t * b + v) (rest + v) =
    then (both_plus (same (t * b)) (back k.second)) (then (same_of _ _ g) (then (both_times st (same b)) (then k.first (same_of _ _ (sym e))))) in
    record {
      first = cancel_plus (t * b) rest v sum;
      second = k.second;
      odd = k.odd;
      common = λ d x y. k.common d (record {
        times = x.times + y.times;
        is = sym e ∙ ap (λ w. w + v) x.is ∙ ap (λ w. x.times * d + w) y.is ∙ (let g2 : x.times * d + y.times * d ≡ (x.times + y.times) * d = omega arith in g2);
      }) y;
    }

-- u and v in the other order
pub euclid_swapped : (a b u v s r : ℕ) → Euclid a b u v s r → u % 2 ≡ 1 → Euclid a b v u r s
euclid_swapped a b u v s r k o = record { first = k.second; second = k.first; odd = o; common = λ d x y. k.common d y x }

-- a divisor of two neighbours is 1
one_only : (x y v : ℕ) → x * v ≡ y * v + 1 → v ≡ 1
one_only x y zero e = absurd (omega arith)
one_only x y (suc v) e = elim (cases_lt y x) [
  | inl l ↦
      let k : ℕ = x - (y + 1) in
      let f : x ≡ y + 1 + k = omega arith in
      let g : x * suc v ≡ (y + 1 + k) * suc v = ap (λ w. w * suc v) f in
      let h : (y + 1 + k) * suc v ≡ y * suc v + suc v + k * suc v = omega arith in
      omega arith
  | inr g ↦
      let m : x * suc v ≤ y * suc v = mul-le-mul_right (suc v) g in
      absurd (omega arith)
]

-- a divisor of the order and of a smaller number is 1
last_is : (a v : ℕ) → a ≢ 0 → a < order → Divides v a → Divides v order → v ≡ 1
last_is a v n h x y = elim (order_is_prime.splits v) [
  | inl d ↦
      let t : ℕ = x.times * d.times in
      let e : a ≡ t * order = x.is ∙ ap (λ w. x.times * w) d.is ∙ (let g : x.times * (d.times * order) ≡ t * order = omega arith in g) in
      absurd (elim (cases_eq t 0) [
        | inl z ↦ n (e ∙ ap (λ w. w * order) z ∙ (let g : 0 * order ≡ 0 = omega arith in g))
        | inr o ↦
            let more : t ≡ t - 1 + 1 = omega arith in
            let f : t * order ≡ (t - 1 + 1) * order = ap (λ w. w * order) more in
            let g : (t - 1 + 1) * order ≡ (t - 1) * order + order = omega arith in
            omega arith
      ])
  | inr m ↦ elim m [
    | inl i ↦ one_only (i.u * y.times) i.v v ((let g : i.u * y.times * v ≡ i.u * (y.times * v) = omega arith in g) ∙ ap (λ w. i.u * w) (sym y.is) ∙ i.is)
    | inr i ↦ one_only i.u (i.v * y.times) v (i.is ∙ ap (λ w. i.v * w + 1) y.is ∙ (let g : i.v * (y.times * v) + 1 ≡ i.v * y.times * v + 1 = omega arith in g))
  ]
]

-- what is left divides the order and a, and is 1
pub euclid_end : (a b u v s r : ℕ) → Euclid a b u v s r → u ≡ 0 → a ≢ 0 → a < order → Same order (r * b) 1
euclid_end a b u v s r k z n h =
    let nothing : Divides v u = record { times = 0; is = z ∙ (let e : 0 ≡ 0 * v = omega arith in e) } in
    let itself : Divides v v = record { times = 1; is = (let e : v ≡ 1 * v = omega arith in e) } in
    let both = k.common v nothing itself in
    then k.second (same_of _ _ (last_is a v n h both.0 both.1))

-- a number with an inverse is not 0
positive : (b r : ℕ) → (b * r) % order ≡ 1 → 0 < b
positive zero r e =
    let g : zero * r ≡ 0 = omega arith in
    let none : (zero * r) % order ≡ 0 = ap (λ v. v % order) g ∙ mod-eq_of_lt order_pos in
    absurd (omega (arith, none, e))
positive (suc b) r e = omega arith

-- by Fermat's little theorem, and as there is but one inverse
pub inverted : (b r : ℕ) → b < order → r < order → Same order (r * b) 1 → r ≡ (b ^ (order - 2)) % order
inverted b r hb hr s =
    let w : ℕ = (b ^ (order - 2)) % order in
    let above : 1 < order = order_is_prime.above in
    let e : b * r ≡ r * b = omega arith in
    let one : (b * r) % order ≡ 1 = ap (λ v. v % order) e ∙ s.is ∙ mod-eq_of_lt above in
    one_inverse b r w hr (mod-lt (b ^ (order - 2)) order_pos) one (inverse_is b b w (positive b r one) hb (sym (mod-eq_of_lt hb)) refl)

-- the powers of 0
zero_power : (k : ℕ) → 0 < k → 0 ^ k ≡ 0
zero_power zero h = absurd (omega arith)
zero_power (suc k) h = pow-suc 0 k ∙ mul-zero (0 ^ k)

-- the order is above 2
two_below : 2 < order
unfolding order
two_below = lit< tt

-- the power of 0
pub zero_inverted : (b : ℕ) → b ≡ 0 → b ≡ (b ^ (order - 2)) % order
zero_inverted b e =
    let k : ℕ = order - 2 in
    let above : 2 < order = two_below in
    e ∙ sym (ap (λ v. (v ^ k) % order) e ∙ ap (λ v. v % order) (zero_power k (omega arith)) ∙ mod-eq_of_lt order_pos)

-- what is not less is at least
pub not_less : (b : Bool) (m n : ℕ) → ((b ≡ true → m < n) × (m < n → b ≡ true)) → b ≡ false → n ≤ m
not_less b m n h f = elim (cases_lt m n) [
  | inl l ↦ absurd (let g : b ≡ true = h.1 l in cc)
  | inr g ↦ g
]
