use Rattle.std.proofs.Common.{◌≡◌, ℕ, suc, ◌+◌, ◌-◌, ◌*◌, ◌/◌, ◌%◌, ◌↔◌, inl, inr, ap, sym, ◌∙◌, refl, arith}
use Rattle.std.proofs.Math.Nat.{mul-mod_left, suc-ne-zero}
use Rattle.warg_primes.proofs.Congruent.{Same, same, back, then, same_more}
use Rattle.warg_primes.proofs.Divisors.{IsPrime}
use Rattle.warg_primes.proofs.Chain.{order_256}
use Rattle.warg_curve.specs.Field.{prime}
use Rattle.warg_curve.specs.Order.{order}
use Rattle.warg_curve.specs.Curve.{Point, infinity, at, add, base}
use Rattle.warg_curve.specs.Group.{multiple}
use Rattle.warg_curve.specs.Laws.{negative}
use Rattle.warg_curve.proofs.CurveFacts.{add_infinity}
use Rattle.warg_curve.proofs.Slopes.{cancel_term}
use Rattle.warg_curve.proofs.OnCurve.{base_on_curve}
use Rattle.warg_curve.proofs.Opposites.{negative_add}
use Rattle.warg_curve.proofs.GroupMultiples.{multiple_zero, multiple_more, multiple_one, multiple_plus, multiple_product, multiple_infinity}
use Rattle.warg_curve.proofs.OrderChain.{bits_256}

before_order : multiple (order - 1) base ≡ negative base
unfolding order negative base prime
before_order = bits_256

order_more : suc (order - 1) ≡ order
unfolding order
order_more = refl

pub order_is_prime : IsPrime order
unfolding order
order_is_prime = order_256

-- the base point, added to itself as often as the order says, gives infinity
pub order_multiple : multiple order base ≡ infinity
order_multiple =
    ap (λ v. multiple v base) (sym order_more) ∙ multiple_more (order - 1) base ∙ ap (λ v. add v base) before_order ∙
    negative_add base base_on_curve

-- so the multiples by the order's multiples are infinity
pub order_multiples : (k : ℕ) → multiple (k * order) base ≡ infinity
order_multiples k = multiple_product k order base base_on_curve ∙ ap (λ v. multiple k v) order_multiple ∙ multiple_infinity k

-- and a number may be reduced modulo the order
pub multiple_reduced : (k : ℕ) → multiple (k % order) base ≡ multiple k base
multiple_reduced k =
    let e : k ≡ k / order * order + k % order = omega arith in
    sym (ap (λ v. multiple v base) e ∙ multiple_plus (k / order * order) (k % order) base base_on_curve ∙
    ap (λ v. add v (multiple (k % order) base)) (order_multiples (k / order)) ∙ add_infinity (multiple (k % order) base))

base_is_finite : base ≡ infinity → ⊥
unfolding base
base_is_finite e = suc-ne-zero 0 (ap finite e)
  where
    finite : Point → ℕ
    finite infinity = 0
    finite (at x y) = 1

multiple_times : (j k : ℕ) → multiple k base ≡ infinity → multiple (j * k) base ≡ infinity
multiple_times j k h = multiple_product j k base base_on_curve ∙ ap (λ v. multiple j v) h ∙ multiple_infinity j

-- no two numbers that differ by 1 are both such
apart_by_one : (j k : ℕ) → k ≡ j + 1 → multiple j base ≡ infinity → multiple k base ≡ infinity → ⊥
apart_by_one j k e a b =
    base_is_finite (sym (ap (λ v. multiple v base) e ∙ multiple_plus j 1 base base_on_curve ∙
    ap (λ v. add v (multiple 1 base)) a ∙ add_infinity (multiple 1 base) ∙ multiple_one base) ∙ b)

-- no others are
only_multiples : (k : ℕ) → multiple k base ≡ infinity → k % order ≡ 0
only_multiples k h = elim (order_is_prime.splits k) [
  | inl d ↦ ap (λ v. v % order) d.is ∙ mul-mod_left d.times order
  | inr x ↦ absurd (elim x [
    | inl m ↦ apart_by_one (m.v * k) (m.u * order) m.is (multiple_times m.v k h) (order_multiples m.u)
    | inr m ↦ apart_by_one (m.v * order) (m.u * k) m.is (order_multiples m.v) (multiple_times m.u k h)
  ])
]

pub base_order : (k : ℕ) → (multiple k base ≡ infinity) ↔ (k % order ≡ 0)
base_order k = (only_multiples k, λ e. sym (multiple_reduced k) ∙ ap (λ v. multiple v base) e ∙ multiple_zero base)

-- two multiples are one point only where the numbers are one modulo the order
equal_numbers : (j k : ℕ) → multiple j base ≡ multiple k base → j % order ≡ k % order
equal_numbers j k h =
    let q : ℕ = order - 1 in
    let n : order ≡ q + 1 = sym order_more ∙ (let e : suc q ≡ q + 1 = omega arith in e) in
    let m : order * k ≡ (q + 1) * k = ap (λ v. v * k) n in
    let e : k + q * k ≡ k * order = omega arith in
    let all : multiple (j + q * k) base ≡ infinity =
    multiple_plus j (q * k) base base_on_curve ∙ ap (λ v. add v (multiple (q * k) base)) h ∙
    sym (multiple_plus k (q * k) base base_on_curve) ∙ ap (λ v. multiple v base) e ∙ order_multiples k in
    let a : Same order (j + q * k) 0 = record { is = only_multiples (j + q * k) all ∙ sym (zero_mod order) } in
    let b : Same order (k + q * k) 0 = same_more (k + q * k) 0 k (let f : k + q * k ≡ 0 + order * k = omega arith in f) in
    let c : Same order j k = cancel_term order q j k (q * k) (q * k) n (then a (back b)) (same (q * k)) in
    c.is
  where
    zero_mod : (n : ℕ) → 0 % n ≡ 0
    zero_mod n = omega arith

pub equal_multiples : (j k : ℕ) → (multiple j base ≡ multiple k base) ↔ (j % order ≡ k % order)
equal_multiples j k =
    (equal_numbers j k, λ e. sym (multiple_reduced j) ∙ ap (λ v. multiple v base) e ∙ multiple_reduced k)
