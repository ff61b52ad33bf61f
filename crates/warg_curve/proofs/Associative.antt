use Rattle.std.proofs.Common.{◌≡◌, ℕ, inl, inr, ap, sym, ◌∙◌}
use Rattle.warg_curve.specs.Curve.{Point, infinity, at, add}
use Rattle.warg_curve.specs.Group.{IsOnCurve}
use Rattle.warg_curve.specs.Laws.{negative}
use Rattle.warg_curve.proofs.CurveFacts.{one_number, add_infinity, add_right}
use Rattle.warg_curve.proofs.OnCurve.{satisfies, same_point, Sum, sum_cases, sum_on_curve, add_negative, negative_on_curve, add_on_curve}
use Rattle.warg_curve.proofs.Opposites.{negative_twice, negative_add, add_commutes, add_back, negative_sum}
use Rattle.warg_curve.proofs.FourLines.{turn, slopes, one_end_x, one_end_y}

-- added and taken away again
add_off : (p q : Point) → IsOnCurve p → IsOnCurve q → add (negative p) (add p q) ≡ q
add_off p q a b =
    ap (λ v. add (negative p) (add v q)) (sym (negative_twice p a)) ∙ add_back (negative p) q (negative_on_curve p a) b

-- the law where B is - A
first_opposite : (p q r : Point) → IsOnCurve p → IsOnCurve r → q ≡ negative p → add (add p q) r ≡ add p (add q r)
first_opposite p q r a c e =
    ap (λ v. add v r) (ap (λ v. add p v) e ∙ add_negative p a) ∙ add_infinity r ∙ sym (ap (λ v. add p (add v r)) e ∙ add_back p r a c)

-- where C is - B
second_opposite : (p q r : Point) → IsOnCurve p → IsOnCurve q → r ≡ negative q → add (add p q) r ≡ add p (add q r)
second_opposite p q r a b e =
    let n = negative_on_curve q b in
    let right : add p (add q r) ≡ p = ap (λ v. add p (add q v)) e ∙ ap (λ v. add p v) (add_negative q b) ∙ add_right p in
    ap (λ v. add (add p q) v) e ∙ add_commutes (add p q) (negative q) (add_on_curve p q a b) n ∙
    ap (λ v. add (negative q) v) (add_commutes p q a b) ∙ add_off q p b a ∙ sym right

-- where C is - (A + B)
third_opposite : (p q r : Point) → IsOnCurve p → IsOnCurve q → r ≡ negative (add p q) → add (add p q) r ≡ add p (add q r)
third_opposite p q r a b e =
    let np = negative_on_curve p a in
    let nq = negative_on_curve q b in
    let turned : r ≡ add (negative q) (negative p) = e ∙ negative_sum p q a b ∙ add_commutes (negative p) (negative q) np nq in
    let right : add p (add q r) ≡ infinity =
    ap (λ v. add p (add q v)) turned ∙ ap (λ v. add p v) (add_back q (negative p) b np) ∙ add_negative p a in
    ap (λ v. add (add p q) v) e ∙ add_negative (add p q) (add_on_curve p q a b) ∙ sym right

-- where B + C is - A
fourth_opposite : (p q r : Point) → IsOnCurve p → IsOnCurve q → IsOnCurve r → add q r ≡ negative p → add (add p q) r ≡ add p (add q r)
fourth_opposite p q r a b c e =
    let nq = negative_on_curve q b in
    let nr = negative_on_curve r c in
    let turned : p ≡ add (negative q) (negative r) = sym (negative_twice p a) ∙ ap negative (sym e) ∙ negative_sum q r b c in
    let left : add p q ≡ negative r = add_commutes p q a b ∙ ap (λ v. add q v) turned ∙ add_back q (negative r) b nr in
    ap (λ v. add v r) left ∙ negative_add r c ∙ sym (ap (λ v. add p v) e ∙ add_negative p a)

-- where all four sums are by lines
four_sums : (x1 y1 x2 y2 x3 y3 : ℕ) → IsOnCurve (at x1 y1) → IsOnCurve (at x2 y2) → IsOnCurve (at x3 y3) →
    (d : Sum x1 y1 x2 y2) (e : Sum x2 y2 x3 y3) → Sum d.x d.y x3 y3 → Sum x1 y1 e.x e.y →
    add (add (at x1 y1) (at x2 y2)) (at x3 y3) ≡ add (at x1 y1) (add (at x2 y2) (at x3 y3))
four_sums x1 y1 x2 y2 x3 y3 a b c d e f g =
    let s1 = satisfies x1 y1 a in
    let s2 = satisfies x2 y2 b in
    let s3 = satisfies x3 y3 c in
    let s4 = satisfies d.x d.y (sum_on_curve x1 y1 x2 y2 d) in
    let t = turn d.slope d.height f.slope f.height e.slope e.height x1 y1 x2 y2 x3 y3 d.x d.y e.x e.y f.x f.y d.meets f.meets e.meets s2 s3 in
    let w = slopes d.slope d.height f.slope f.height e.slope e.height g.slope g.height x1 y1 x2 y2 x3 y3 d.x d.y e.x e.y f.x f.y g.x g.y
    d.meets f.meets e.meets g.meets s1 s2 s3 s4 in
    let x = one_end_x d.slope d.height f.slope f.height e.slope e.height g.slope g.height x1 y1 x2 y2 x3 y3 d.x d.y e.x e.y f.x f.y g.x g.y
    d.meets f.meets e.meets g.meets w t in
    let y = one_end_y d.slope d.height f.slope f.height e.slope e.height g.slope g.height x1 y1 x2 y2 x3 y3 d.x d.y e.x e.y f.x f.y g.x g.y
    d.meets f.meets e.meets g.meets w t x in
    ap (λ v. add v (at x3 y3)) d.is ∙ f.is ∙
    same_point f.x f.y g.x g.y (one_number f.x g.x f.x_under g.x_under x) (one_number f.y g.y f.y_under g.y_under y) ∙
    sym (ap (λ v. add (at x1 y1) v) e.is ∙ g.is)

-- the sum of three points does not depend on where it begins
pub add_associates : (p q r : Point) → IsOnCurve p → IsOnCurve q → IsOnCurve r → add (add p q) r ≡ add p (add q r)
add_associates infinity q r a b c = ap (λ v. add v r) (add_infinity q) ∙ sym (add_infinity (add q r))
add_associates (at x1 y1) infinity r a b c = ap (λ v. add v r) (add_right (at x1 y1)) ∙ sym (ap (λ v. add (at x1 y1) v) (add_infinity r))
add_associates (at x1 y1) (at x2 y2) infinity a b c =
    add_right (add (at x1 y1) (at x2 y2)) ∙ sym (ap (λ v. add (at x1 y1) v) (add_right (at x2 y2)))
add_associates (at x1 y1) (at x2 y2) (at x3 y3) a b c =
    let p : Point = at x1 y1 in
    let q : Point = at x2 y2 in
    let r : Point = at x3 y3 in
    elim (sum_cases x1 y1 x2 y2 a b) [
      | inl o ↦ first_opposite p q r a c o
      | inr d ↦ elim (sum_cases x2 y2 x3 y3 b c) [
        | inl o ↦ second_opposite p q r a b o
        | inr e ↦ elim (sum_cases d.x d.y x3 y3 (sum_on_curve x1 y1 x2 y2 d) c) [
          | inl o ↦ third_opposite p q r a b (o ∙ ap negative (sym d.is))
          | inr f ↦ elim (sum_cases x1 y1 e.x e.y a (sum_on_curve x2 y2 x3 y3 e)) [
            | inl o ↦ fourth_opposite p q r a b c (e.is ∙ o)
            | inr g ↦ four_sums x1 y1 x2 y2 x3 y3 a b c d e f g
          ]
        ]
      ]
    ]
