use Rattle.std.proofs.Common.{◌≡◌, ℕ, zero, suc, ◌+◌, ◌*◌, ap, sym, ◌∙◌, refl, arith}
use Rattle.warg_curve.specs.Curve.{Point, infinity, double, add}
use Rattle.warg_curve.specs.Group.{IsOnCurve, multiple}
use Rattle.warg_curve.specs.Laws.{negative}
use Rattle.warg_curve.proofs.CurveFacts.{add_infinity, add_right}
use Rattle.warg_curve.proofs.OnCurve.{negative_infinity, add_on_curve, add_itself, multiple_on_curve}
use Rattle.warg_curve.proofs.Opposites.{add_commutes, negative_sum}
use Rattle.warg_curve.proofs.Associative.{add_associates}

pub multiple_zero : (p : Point) → multiple 0 p ≡ infinity
unfolding multiple
multiple_zero p = refl

pub multiple_more : (k : ℕ) (p : Point) → multiple (suc k) p ≡ add (multiple k p) p
unfolding multiple
multiple_more k p = refl

pub multiple_one : (p : Point) → multiple 1 p ≡ p
multiple_one p = multiple_more 0 p ∙ ap (λ v. add v p) (multiple_zero p) ∙ add_infinity p

-- the multiple by a sum
pub multiple_plus : (j k : ℕ) (p : Point) → IsOnCurve p → multiple (j + k) p ≡ add (multiple j p) (multiple k p)
multiple_plus j zero p h =
    let e : j + 0 ≡ j = omega arith in
    ap (λ v. multiple v p) e ∙ sym (ap (λ v. add (multiple j p) v) (multiple_zero p) ∙ add_right (multiple j p))
multiple_plus j (suc k) p h =
    let e : j + suc k ≡ suc (j + k) = omega arith in
    ap (λ v. multiple v p) e ∙ multiple_more (j + k) p ∙ ap (λ v. add v p) (multiple_plus j k p h) ∙
    add_associates (multiple j p) (multiple k p) p (multiple_on_curve j p h) (multiple_on_curve k p h) h ∙
    ap (λ v. add (multiple j p) v) (sym (multiple_more k p))

-- the multiple by a product
pub multiple_product : (j k : ℕ) (p : Point) → IsOnCurve p → multiple (j * k) p ≡ multiple j (multiple k p)
multiple_product zero k p h =
    let e : 0 * k ≡ 0 = omega arith in
    ap (λ v. multiple v p) e ∙ multiple_zero p ∙ sym (multiple_zero (multiple k p))
multiple_product (suc j) k p h =
    let e : suc j * k ≡ j * k + k = omega arith in
    ap (λ v. multiple v p) e ∙ multiple_plus (j * k) k p h ∙ ap (λ v. add v (multiple k p)) (multiple_product j k p h) ∙
    sym (multiple_more j (multiple k p))

-- the multiple by twice a number
pub multiple_double : (k : ℕ) (p : Point) → IsOnCurve p → multiple (2 * k) p ≡ double (multiple k p)
multiple_double k p h =
    let e : 2 * k ≡ k + k = omega arith in
    ap (λ v. multiple v p) e ∙ multiple_plus k k p h ∙ add_itself (multiple k p) (multiple_on_curve k p h)

-- the multiples of infinity
pub multiple_infinity : (k : ℕ) → multiple k infinity ≡ infinity
multiple_infinity zero = multiple_zero infinity
multiple_infinity (suc k) = multiple_more k infinity ∙ add_right (multiple k infinity) ∙ multiple_infinity k

-- the multiples of a mirror image
pub multiple_negative : (k : ℕ) (p : Point) → IsOnCurve p → multiple k (negative p) ≡ negative (multiple k p)
multiple_negative zero p h = multiple_zero (negative p) ∙ sym (ap negative (multiple_zero p) ∙ negative_infinity)
multiple_negative (suc k) p h =
    multiple_more k (negative p) ∙ ap (λ v. add v (negative p)) (multiple_negative k p h) ∙
    sym (ap negative (multiple_more k p) ∙ negative_sum (multiple k p) p (multiple_on_curve k p h) h)

-- (A + B) + (C + D) is (A + C) + (B + D)
pub exchanged : (p q r s : Point) → IsOnCurve p → IsOnCurve q → IsOnCurve r → IsOnCurve s → add (add p q) (add r s) ≡ add (add p r) (add q s)
exchanged p q r s a b c d =
    let rs = add_on_curve r s c d in
    let qs = add_on_curve q s b d in
    let inner : add q (add r s) ≡ add r (add q s) =
    sym (add_associates q r s b c d) ∙ ap (λ v. add v s) (add_commutes q r b c) ∙ add_associates r q s c b d in
    add_associates p q (add r s) a b rs ∙ ap (λ v. add p v) inner ∙ sym (add_associates p r (add q s) a c qs)

-- the multiples of a sum
pub multiple_sum : (k : ℕ) (p q : Point) → IsOnCurve p → IsOnCurve q → multiple k (add p q) ≡ add (multiple k p) (multiple k q)
multiple_sum zero p q a b =
    multiple_zero (add p q) ∙ sym (ap (λ v. add v (multiple 0 q)) (multiple_zero p) ∙ add_infinity (multiple 0 q) ∙ multiple_zero q)
multiple_sum (suc k) p q a b =
    multiple_more k (add p q) ∙ ap (λ v. add v (add p q)) (multiple_sum k p q a b) ∙
    exchanged (multiple k p) (multiple k q) p q (multiple_on_curve k p a) (multiple_on_curve k q b) a b ∙
    sym (ap (λ v. add v (multiple (suc k) q)) (multiple_more k p) ∙ ap (λ v. add (add (multiple k p) p) v) (multiple_more k q))
