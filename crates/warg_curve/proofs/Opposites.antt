use Rattle.std.proofs.Common.{◌≡◌, ℕ, ◌+◌, ◌*◌, ◌<◌, inl, inr, ap, sym, ◌∙◌, refl, subst, arith}
use Rattle.warg_primes.proofs.Congruent.{Same, same, same_of, then}
use Rattle.warg_curve.specs.Field.{prime, minus}
use Rattle.warg_curve.specs.Curve.{Point, infinity, at, add}
use Rattle.warg_curve.specs.Group.{IsOnCurve}
use Rattle.warg_curve.specs.Laws.{negative}
use Rattle.warg_curve.proofs.CurveFacts.{low, one_number, add_infinity, add_right}
use Rattle.warg_curve.proofs.Slopes.{minus_more}
use Rattle.warg_curve.proofs.Relations.{low_negative}
use Rattle.warg_curve.proofs.Lines.{Meets, swapped, mirrored, turned, never_mirrored, one_slope, one_third_x, one_third_y}
use Rattle.warg_curve.proofs.OnCurve.{satisfies, x_below, y_below, minus_below, negative_at, negative_infinity, same_point}
use Rattle.warg_curve.proofs.OnCurve.{minus_is_negative, sum_cases, sum_on_curve, add_negative, negative_on_curve}

negated : (x y : ℕ) → IsOnCurve (at x y) → Same prime (minus 0 y + y) 0
negated x y h = minus_more 0 y (y_below x y h)

mirror : (x y : ℕ) → IsOnCurve (at x y) → Same prime (y + minus 0 y) 0
mirror x y h = then (same_of _ _ (turn y (minus 0 y))) (negated x y h)
  where
    turn : (a b : ℕ) → a + b ≡ b + a
    turn a b = omega arith

-- what a point is, from an equation of points
pub same_x : (x1 y1 x2 y2 : ℕ) → at x1 y1 ≡ at x2 y2 → x1 ≡ x2
same_x x1 y1 x2 y2 e = ap first_number e
  where
    first_number : Point → ℕ
    first_number infinity = 0
    first_number (at x y) = x

pub same_y : (x1 y1 x2 y2 : ℕ) → at x1 y1 ≡ at x2 y2 → y1 ≡ y2
same_y x1 y1 x2 y2 e = ap second_number e
  where
    second_number : Point → ℕ
    second_number infinity = 0
    second_number (at x y) = y

-- what a line meets is the sum
pub sum_is : (s c x1 y1 x2 y2 x3 y3 : ℕ) → IsOnCurve (at x1 y1) → IsOnCurve (at x2 y2) → x3 < prime → y3 < prime →
    Meets s c x1 y1 x2 y2 x3 y3 → add (at x1 y1) (at x2 y2) ≡ at x3 y3
sum_is s c x1 y1 x2 y2 x3 y3 a b hx hy m = elim (sum_cases x1 y1 x2 y2 a b) [
  | inl e ↦
      let f : at x2 y2 ≡ at x1 (minus 0 y1) = e ∙ negative_at x1 y1 in
      let z : Same prime (y2 + y1) 0 = subst (λ v. Same prime (v + y1) 0) (sym (same_y x2 y2 x1 (minus 0 y1) f)) (negated x1 y1 a) in
      absurd (never_mirrored s c x1 y1 x2 y2 x3 y3 m (satisfies x1 y1 a) (same_of _ _ (sym (same_x x2 y2 x1 (minus 0 y1) f))) z)
  | inr n ↦
      let d = one_slope n.slope n.height x1 y1 x2 y2 n.x n.y s c x1 y1 x2 y2 x3 y3 n.meets m (satisfies x1 y1 a) (same x1) (same y1) (same x2) (same y2) in
      let e = one_third_x n.slope n.height x1 y1 x2 y2 n.x n.y s c x1 y1 x2 y2 x3 y3 n.meets m d (same x1) (same x2) in
      let f = one_third_y n.slope n.height x1 y1 x2 y2 n.x n.y s c x1 y1 x2 y2 x3 y3 n.meets m d (same x1) (same y1) e in
      n.is ∙ same_point n.x n.y x3 y3 (one_number n.x x3 n.x_under hx e) (one_number n.y y3 n.y_under hy f)
]

pub negative_twice : (p : Point) → IsOnCurve p → negative (negative p) ≡ p
negative_twice infinity h = ap negative negative_infinity ∙ negative_infinity
negative_twice (at x y) h =
    let k = y_below x y h in
    let s : Same prime (y + minus 0 y) 0 = mirror x y h in
    ap negative (negative_at x y) ∙ negative_at x (minus 0 y) ∙
    same_point x (minus 0 (minus 0 y)) x y refl (sym (minus_is_negative (minus 0 y) y (minus_below 0 y) k s))

-- a mirror image and its point give infinity
pub negative_add : (p : Point) → IsOnCurve p → add (negative p) p ≡ infinity
negative_add p h = ap (λ v. add (negative p) v) (sym (negative_twice p h)) ∙ add_negative (negative p) (negative_on_curve p h)

-- the sum does not depend on the order
pub add_commutes : (p q : Point) → IsOnCurve p → IsOnCurve q → add p q ≡ add q p
add_commutes infinity q a b = add_infinity q ∙ sym (add_right q)
add_commutes (at x y) infinity a b = add_right (at x y) ∙ sym (add_infinity (at x y))
add_commutes (at x1 y1) (at x2 y2) a b = elim (sum_cases x1 y1 x2 y2 a b) [
  | inl e ↦ ap (λ v. add (at x1 y1) v) e ∙ add_negative (at x1 y1) a ∙ sym (ap (λ v. add v (at x1 y1)) e ∙ negative_add (at x1 y1) a)
  | inr m ↦ m.is ∙ sym (sum_is m.slope m.height x2 y2 x1 y1 m.x m.y b a m.x_under m.y_under (swapped m.slope m.height x1 y1 x2 y2 m.x m.y m.meets))
]

-- taken away and added again
pub add_back : (p q : Point) → IsOnCurve p → IsOnCurve q → add p (add (negative p) q) ≡ q
add_back infinity q a b = add_infinity (add (negative infinity) q) ∙ ap (λ v. add v q) negative_infinity ∙ add_infinity q
add_back (at x y) infinity a b = ap (λ v. add (at x y) v) (add_right (negative (at x y))) ∙ add_negative (at x y) a
add_back (at x1 y1) (at x2 y2) a b =
    let z1 : ℕ = minus 0 y1 in
    let n : IsOnCurve (at x1 z1) = subst IsOnCurve (negative_at x1 y1) (negative_on_curve (at x1 y1) a) in
    ap (λ v. add (at x1 y1) (add v (at x2 y2))) (negative_at x1 y1) ∙ elim (sum_cases x1 z1 x2 y2 n b) [
      | inl e ↦
          let f : at x2 y2 ≡ at x1 y1 = e ∙ ap negative (sym (negative_at x1 y1)) ∙ negative_twice (at x1 y1) a in
          ap (λ v. add (at x1 y1) (add (at x1 z1) v)) e ∙ ap (λ v. add (at x1 y1) v) (add_negative (at x1 z1) n) ∙ add_right (at x1 y1) ∙ sym f
      | inr m ↦
          let t : Meets (low * m.slope) (low * m.height) x1 y1 m.x m.y x2 y2 =
          turned m.slope m.height x1 z1 x2 y2 m.x m.y (low * m.slope) (low * m.height) y1 m.meets (low_negative m.slope) (low_negative m.height) (mirror x1 y1 a) in
          ap (λ v. add (at x1 y1) v) m.is ∙
          sum_is (low * m.slope) (low * m.height) x1 y1 m.x m.y x2 y2 a (sum_on_curve x1 z1 x2 y2 m) (x_below x2 y2 b) (y_below x2 y2 b) t
    ]

-- the mirror image of a sum
pub negative_sum : (p q : Point) → IsOnCurve p → IsOnCurve q → negative (add p q) ≡ add (negative p) (negative q)
negative_sum infinity q a b =
    ap negative (add_infinity q) ∙ sym (ap (λ v. add v (negative q)) negative_infinity ∙ add_infinity (negative q))
negative_sum (at x y) infinity a b =
    ap negative (add_right (at x y)) ∙ sym (ap (λ v. add (negative (at x y)) v) negative_infinity ∙ add_right (negative (at x y)))
negative_sum (at x1 y1) (at x2 y2) a b = elim (sum_cases x1 y1 x2 y2 a b) [
  | inl e ↦
      ap negative (ap (λ v. add (at x1 y1) v) e ∙ add_negative (at x1 y1) a) ∙ negative_infinity ∙
      sym (ap (λ v. add (negative (at x1 y1)) (negative v)) e ∙ add_negative (negative (at x1 y1)) (negative_on_curve (at x1 y1) a))
  | inr m ↦
      let z1 : ℕ = minus 0 y1 in
      let z2 : ℕ = minus 0 y2 in
      let z : ℕ = minus 0 m.y in
      let n1 : IsOnCurve (at x1 z1) = subst IsOnCurve (negative_at x1 y1) (negative_on_curve (at x1 y1) a) in
      let n2 : IsOnCurve (at x2 z2) = subst IsOnCurve (negative_at x2 y2) (negative_on_curve (at x2 y2) b) in
      let t : Meets (low * m.slope) (low * m.height) x1 z1 x2 z2 m.x z =
      mirrored m.slope m.height x1 y1 x2 y2 m.x m.y (low * m.slope) (low * m.height) z1 z2 z m.meets (low_negative m.slope) (low_negative m.height)
      (negated x1 y1 a) (negated x2 y2 b) (minus_more 0 m.y m.y_under) in
      ap negative m.is ∙ negative_at m.x m.y ∙
      sym (ap (λ v. add v (negative (at x2 y2))) (negative_at x1 y1) ∙ ap (λ v. add (at x1 z1) v) (negative_at x2 y2) ∙
      sum_is (low * m.slope) (low * m.height) x1 z1 x2 z2 m.x z n1 n2 m.x_under (minus_below 0 m.y) t)
]
