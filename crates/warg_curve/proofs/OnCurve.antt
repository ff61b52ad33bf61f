use Rattle.std.proofs.Common.{◌≡◌, ◌≢◌, ℕ, ◌+◌, ◌-◌, ◌*◌, ◌<◌, ◌⊎◌, inl, inr, ap, sym, ◌∙◌, refl, subst, lit<, zero, suc, arith}
use Rattle.std.proofs.lemmas.Bool.{cases_eq}
use Rattle.std.proofs.Math.Nat.{mod-lt}
use Rattle.warg_primes.proofs.Congruent.{Same, same, same_of, back, then, both_times, both_plus}
use Rattle.warg_curve.specs.Field.{prime, plus, minus, times}
use Rattle.warg_curve.specs.Curve.{Point, infinity, at, third, tangent_slope, chord_slope, double, add, base}
use Rattle.warg_curve.specs.Group.{curve_b, right_side_of, IsOnCurve, multiple}
use Rattle.warg_curve.specs.Laws.{negative}
use Rattle.warg_curve.proofs.CurveFacts.{prime_pos, two_below, three_below, whole, one_number, times_below, zero_factor, quotient_times, double_flat, double_sloped, double_infinity, add_infinity, add_right, add_same, add_mirrored, add_chord}
use Rattle.warg_curve.proofs.Inverses.{has_inverses}
use Rattle.warg_curve.proofs.Slopes.{cancel_factor, minus_more, minus_nonzero}
use Rattle.warg_curve.proofs.Relations.{◌⊕◌, ◌⊙◌, follows, product_zero}
use Rattle.warg_curve.proofs.Lines.{Satisfies, Meets, chord_meets, tangent_meets, third_satisfies}

pub minus_below : (a b : ℕ) → minus a b < prime
minus_below a b = mod-lt (a + (prime - b)) prime_pos

-- where w is v less t, t is 3 x and v is x ^ 3
from_parts : (x y w t v : ℕ) → Same prime (y * y) (w + curve_b) → Same prime (w + t) v → Same prime t (x + x + x) → Same prime v (x * x * x) → Satisfies x y
from_parts x y w t v r m h k = follows (back r ⊕ back m ⊕ h ⊕ back k) (omega arith)

to_parts : (x y w t v : ℕ) → Satisfies x y → Same prime (w + t) v → Same prime t (x + x + x) → Same prime v (x * x * x) → Same prime (y * y) (w + curve_b)
to_parts x y w t v r m h k = follows (back r ⊕ m ⊕ back h ⊕ k) (omega arith)

tripled : (x : ℕ) → Same prime (plus (plus x x) x) (x + x + x)
tripled x = then (whole (plus x x + x)) (both_plus (whole (x + x)) (same x))

cubed : (x : ℕ) → Same prime (times (times x x) x) (x * x * x)
cubed x = then (whole (times x x * x)) (both_times (whole (x * x)) (same x))

cube_less : (x : ℕ) → ℕ
cube_less x = minus (times (times x x) x) (plus (plus x x) x)

less_more : (x : ℕ) → Same prime (cube_less x + plus (plus x x) x) (times (times x x) x)
unfolding cube_less
less_more x = minus_more (times (times x x) x) (plus (plus x x) x) (mod-lt (plus x x + x) prime_pos)

right_side : (x : ℕ) → Same prime (right_side_of x) (cube_less x + curve_b)
unfolding cube_less
right_side x = whole (minus (times (times x x) x) (plus (plus x x) x) + curve_b)

-- the equation as a relation
pub satisfies : (x y : ℕ) → IsOnCurve (at x y) → Satisfies x y
unfolding IsOnCurve
satisfies x y h =
    from_parts x y (cube_less x) (plus (plus x x) x) (times (times x x) x)
    (then (back (whole (y * y))) (then (same_of _ _ h.2) (right_side x))) (less_more x) (tripled x) (cubed x)

pub x_below : (x y : ℕ) → IsOnCurve (at x y) → x < prime
unfolding IsOnCurve
x_below x y h = h.0

pub y_below : (x y : ℕ) → IsOnCurve (at x y) → y < prime
unfolding IsOnCurve
y_below x y h = h.1

-- and back
pub on_curve : (x y : ℕ) → x < prime → y < prime → Satisfies x y → IsOnCurve (at x y)
unfolding IsOnCurve
on_curve x y hx hy s = (
  hx,
  hy,
  one_number (times y y) (right_side_of x) (times_below y y) (mod-lt _ prime_pos)
      (then (whole (y * y))
      (then (to_parts x y (cube_less x) (plus (plus x x) x) (times (times x x) x) s (less_more x) (tripled x) (cubed x)) (back (right_side x)))),
)

pub infinity_on_curve : IsOnCurve infinity
unfolding IsOnCurve
infinity_on_curve = tt

pub negative_at : (x y : ℕ) → negative (at x y) ≡ at x (minus 0 y)
unfolding negative
negative_at x y = refl

pub negative_infinity : negative infinity ≡ infinity
unfolding negative
negative_infinity = refl

-- equal coordinates make equal points
pub same_point : (x1 y1 x2 y2 : ℕ) → x1 ≡ x2 → y1 ≡ y2 → at x1 y1 ≡ at x2 y2
same_point x1 y1 x2 y2 e f = ap (λ v. at v y1) e ∙ ap (λ v. at x2 v) f

-- a number whose sum with y is 0 is minus y
pub minus_is_negative : (y z : ℕ) → y < prime → z < prime → Same prime (z + y) 0 → z ≡ minus 0 y
minus_is_negative y z hy hz s =
    let m : Same prime (minus 0 y + y) 0 = minus_more 0 y hy in
    one_number z (minus 0 y) hz (minus_below 0 y) (cancelled z (minus 0 y) y s m)
  where
    cancelled : (z w y : ℕ) → Same prime (z + y) 0 → Same prime (w + y) 0 → Same prime z w
    cancelled z w y s m = follows (back s ⊕ m) (omega arith)

mirror_satisfies : (x y z : ℕ) → Satisfies x y → Same prime (z + y) 0 → Satisfies x z
mirror_satisfies x y z a s = follows (back a ⊕ z ⊙ back s ⊕ y ⊙ s) (omega arith)

-- the mirror image of a point of the curve is one
pub negative_on_curve : (p : Point) → IsOnCurve p → IsOnCurve (negative p)
negative_on_curve infinity h = subst IsOnCurve (sym negative_infinity) infinity_on_curve
negative_on_curve (at x y) h =
    subst IsOnCurve (sym (negative_at x y))
    (on_curve x (minus 0 y) (x_below x y h) (minus_below 0 y) (mirror_satisfies x y (minus 0 y) (satisfies x y h) (minus_more 0 y (y_below x y h))))

-- the sum of two points by a line, and what the line meets
pub record Sum (x1 y1 x2 y2 : ℕ) : Type 0 where
  pub slope : ℕ
  pub height : ℕ
  pub x : ℕ
  pub y : ℕ
  pub x_under : x < prime
  pub y_under : y < prime
  pub meets : Meets slope height x1 y1 x2 y2 x y
  pub is : add (at x1 y1) (at x2 y2) ≡ at x y

third_x : (s x1 x2 w x3 : ℕ) → Same prime (w + x1) (s * s) → Same prime (x3 + x2) w → Same prime (x1 + x2 + x3) (s * s)
third_x s x1 x2 w x3 h k = follows (back h ⊕ back k) (omega arith)

third_y : (s x1 y1 x3 y3 d v : ℕ) → Same prime (d + x3) x1 → Same prime v (s * d) → Same prime (y3 + y1) v → Same prime (y3 + y1 + s * x3) (s * x1)
third_y s x1 y1 x3 y3 d v h k l = follows (s ⊙ back h ⊕ back k ⊕ back l) (omega arith)

-- the x and y that third gives
x_of : ℕ → ℕ → ℕ → ℕ
x_of s x1 x2 = minus (minus (times s s) x1) x2

y_of : ℕ → ℕ → ℕ → ℕ → ℕ
y_of s x1 y1 x2 = minus (times s (minus x1 (x_of s x1 x2))) y1

third_is : (s x1 y1 x2 : ℕ) → third s x1 y1 x2 ≡ at (x_of s x1 x2) (y_of s x1 y1 x2)
unfolding x_of y_of
third_is s x1 y1 x2 = refl

x_of_below : (s x1 x2 : ℕ) → x_of s x1 x2 < prime
unfolding x_of
x_of_below s x1 x2 = minus_below _ _

y_of_below : (s x1 y1 x2 : ℕ) → y_of s x1 y1 x2 < prime
unfolding y_of
y_of_below s x1 y1 x2 = minus_below _ _

x_of_is : (s x1 x2 : ℕ) → x1 < prime → x2 < prime → Same prime (x1 + x2 + x_of s x1 x2) (s * s)
unfolding x_of
x_of_is s x1 x2 h1 h2 =
    third_x s x1 x2 (minus (times s s) x1) (minus (minus (times s s) x1) x2)
    (then (minus_more (times s s) x1 h1) (whole (s * s))) (minus_more (minus (times s s) x1) x2 h2)

y_of_is : (s x1 y1 x2 : ℕ) → y1 < prime → Same prime (y_of s x1 y1 x2 + y1 + s * x_of s x1 x2) (s * x1)
unfolding y_of
y_of_is s x1 y1 x2 h1 =
    let x3 : ℕ = x_of s x1 x2 in
    third_y s x1 y1 x3 (minus (times s (minus x1 x3)) y1) (minus x1 x3) (times s (minus x1 x3))
    (minus_more x1 x3 (x_of_below s x1 x2)) (whole (s * minus x1 x3)) (minus_more (times s (minus x1 x3)) y1 h1)

-- the height of the line at x = 0
height_of : ℕ → ℕ → ℕ → ℕ
height_of s x1 y1 = minus y1 (times s x1)

height_is : (s x1 y1 : ℕ) → Same prime y1 (s * x1 + height_of s x1 y1)
unfolding height_of
height_is s x1 y1 = flipped (s * x1) (times s x1) (minus y1 (times s x1)) y1 (whole (s * x1)) (minus_more y1 (times s x1) (times_below s x1))
  where
    flipped : (u v h y : ℕ) → Same prime v u → Same prime (h + v) y → Same prime y (u + h)
    flipped u v h y a b = follows (b ⊕ back a) (omega arith)

tangent_is : (x y : ℕ) → y < prime → y ≢ 0 → Same prime (2 * (tangent_slope x y * y) + 3) (3 * (x * x))
tangent_is x y hy n =
    let dividend : ℕ = minus (times 3 (times x x)) 3 in
    let q : Same prime (tangent_slope x y * (2 * y)) (minus (times 3 (times x x)) 3) =
    quotient_times has_inverses (minus (times 3 (times x x)) 3) (times 2 y) (2 * y) (whole (2 * y)) (times_below 2 y)
    (zero_factor has_inverses 2 y two_below hy (λ (z : 2 ≡ 0). absurd (omega arith)) n) in
    let w : Same prime (times 3 (times x x)) (3 * (x * x)) = then (whole (3 * times x x)) (both_times (same 3) (whole (x * x))) in
    moved (tangent_slope x y) y x (minus (times 3 (times x x)) 3) (times 3 (times x x)) q (minus_more (times 3 (times x x)) 3 three_below) w
  where
    moved : (s y x d v : ℕ) → Same prime (s * (2 * y)) d → Same prime (d + 3) v → Same prime v (3 * (x * x)) → Same prime (2 * (s * y) + 3) (3 * (x * x))
    moved s y x d v a b c = follows (back a ⊕ back b ⊕ back c) (omega arith)

chord_is : (x1 y1 x2 y2 : ℕ) → x1 < prime → y1 < prime → x2 < prime → x1 ≢ x2 →
    Same prime (chord_slope x1 y1 x2 y2 * x2 + y1) (chord_slope x1 y1 x2 y2 * x1 + y2)
chord_is x1 y1 x2 y2 h1 k1 h2 n =
    moved (chord_slope x1 y1 x2 y2) x1 y1 x2 y2 (minus x2 x1) (minus y2 y1)
    (quotient_times has_inverses (minus y2 y1) (minus x2 x1) (minus x2 x1) (same (minus x2 x1)) (minus_below x2 x1) (minus_nonzero x2 x1 h2 h1 n))
    (minus_more x2 x1 h1) (minus_more y2 y1 k1)
  where
    moved : (s x1 y1 x2 y2 d e : ℕ) → Same prime (s * d) e → Same prime (d + x1) x2 → Same prime (e + y1) y2 → Same prime (s * x2 + y1) (s * x1 + y2)
    moved s x1 y1 x2 y2 d e a b c = follows (back a ⊕ s ⊙ b ⊕ back c) (omega arith)

-- a point with y not 0 has a tangent
doubled : (x y : ℕ) → IsOnCurve (at x y) → y ≢ 0 → Sum x y x y
doubled x y h n =
    let s : ℕ = tangent_slope x y in
    let hx = x_below x y h in
    let hy = y_below x y h in
    record {
      slope = s;
      height = height_of s x y;
      x = x_of s x x;
      y = y_of s x y x;
      x_under = x_of_below s x x;
      y_under = y_of_below s x y x;
      meets = tangent_meets s (height_of s x y) x y (x_of s x x) (y_of s x y x) (satisfies x y h) (tangent_is x y hy n) (height_is s x y) (x_of_is s x x hx hx) (y_of_is s x y x hy);
      is = add_same x y x y refl refl ∙ double_sloped x y n ∙ third_is s x y x;
    }

-- two points that are not above each other have a chord
chorded : (x1 y1 x2 y2 : ℕ) → IsOnCurve (at x1 y1) → IsOnCurve (at x2 y2) → x1 ≢ x2 → Sum x1 y1 x2 y2
chorded x1 y1 x2 y2 a b n =
    let s : ℕ = chord_slope x1 y1 x2 y2 in
    let h1 = x_below x1 y1 a in
    let k1 = y_below x1 y1 a in
    let h2 = x_below x2 y2 b in
    record {
      slope = s;
      height = height_of s x1 y1;
      x = x_of s x1 x2;
      y = y_of s x1 y1 x2;
      x_under = x_of_below s x1 x2;
      y_under = y_of_below s x1 y1 x2;
      meets = chord_meets s (height_of s x1 y1) x1 y1 x2 y2 (x_of s x1 x2) (y_of s x1 y1 x2) (satisfies x1 y1 a) (satisfies x2 y2 b) (λ e. n (one_number x1 x2 h1 h2 e))
          (chord_is x1 y1 x2 y2 h1 k1 h2 n) (height_is s x1 y1) (x_of_is s x1 x2 h1 h2) (y_of_is s x1 y1 x2 k1);
      is = add_chord x1 y1 x2 y2 n ∙ third_is s x1 y1 x2;
    }

-- two points above each other have y and - y, or one y
two_heights : (x y z : ℕ) → Satisfies x y → Satisfies x z → Same prime y z ⊎ Same prime (z + y) 0
two_heights x y z a b =
    let p : Same prime (y * (z + y) + z * 0) (y * 0 + z * (z + y)) = follows (back a ⊕ b) (omega arith) in
    product_zero y z (z + y) 0 p

-- two points of the curve are each other's mirror images, or a line gives their sum
pub sum_cases : (x1 y1 x2 y2 : ℕ) → IsOnCurve (at x1 y1) → IsOnCurve (at x2 y2) → (at x2 y2 ≡ negative (at x1 y1)) ⊎ Sum x1 y1 x2 y2
sum_cases x1 y1 x2 y2 a b =
    let k1 = y_below x1 y1 a in
    let k2 = y_below x2 y2 b in
    let opposite = λ (e : x1 ≡ x2) (s : Same prime (y2 + y1) 0).
    same_point x2 y2 x1 (minus 0 y1) (sym e) (minus_is_negative y1 y2 k1 k2 s) ∙ sym (negative_at x1 y1) in
    elim (cases_eq x1 x2) [
      | inl e ↦ elim (cases_eq y1 y2) [
        | inl f ↦ elim (cases_eq y1 0) [
          | inl z ↦ inl (opposite e (same_of _ _ (let g : y1 ≡ y2 = f in let o : y1 ≡ 0 = z in omega arith)))
          | inr n ↦ inr (subst (λ v. Sum x1 y1 v y2) e (subst (λ v. Sum x1 y1 x1 v) f (doubled x1 y1 a n)))
        ]
        | inr n ↦ elim (two_heights x1 y1 y2 (satisfies x1 y1 a) (subst (λ v. Satisfies v y2) (sym e) (satisfies x2 y2 b))) [
          | inl s ↦ absurd (n (one_number y1 y2 k1 k2 s))
          | inr s ↦ inl (opposite e s)
        ]
      ]
      | inr n ↦ inr (chorded x1 y1 x2 y2 a b n)
    ]

pub sum_on_curve : (x1 y1 x2 y2 : ℕ) (m : Sum x1 y1 x2 y2) → IsOnCurve (at m.x m.y)
sum_on_curve x1 y1 x2 y2 m = on_curve m.x m.y m.x_under m.y_under (third_satisfies m.slope m.height x1 y1 x2 y2 m.x m.y m.meets)

-- a point and its mirror image give infinity
pub add_negative : (p : Point) → IsOnCurve p → add p (negative p) ≡ infinity
add_negative infinity h = ap (λ v. add infinity v) negative_infinity ∙ add_infinity infinity
add_negative (at x y) h = ap (λ v. add (at x y) v) (negative_at x y) ∙ elim (cases_eq y (minus 0 y)) [
  | inl e ↦ add_same x y x (minus 0 y) refl e ∙ double_flat x y (flat y (y_below x y h) (minus_more 0 y (y_below x y h)) e)
  | inr n ↦ add_mirrored x y x (minus 0 y) refl n
]
  where
    twice : (z y : ℕ) → Same prime z y → Same prime (z + y) 0 → Same prime (y * 2) (0 * 2)
    twice z y w s = follows (w ⊕ back s) (omega arith)

    flat : (y : ℕ) → y < prime → Same prime (minus 0 y + y) 0 → y ≡ minus 0 y → y ≡ 0
    flat y h s e =
        let w : Same prime (minus 0 y) y = same_of _ _ (sym e) in
        let two : Same prime (y * 2) (0 * 2) = twice (minus 0 y) y w s in
        one_number y 0 h prime_pos (cancel_factor y 0 2 two_below (λ (z : 2 ≡ 0). absurd (omega arith)) two)

-- the sum of two points of the curve is on it
pub add_on_curve : (p q : Point) → IsOnCurve p → IsOnCurve q → IsOnCurve (add p q)
add_on_curve infinity q a b = subst IsOnCurve (sym (add_infinity q)) b
add_on_curve (at x y) infinity a b = subst IsOnCurve (sym (add_right (at x y))) a
add_on_curve (at x1 y1) (at x2 y2) a b = elim (sum_cases x1 y1 x2 y2 a b) [
  | inl e ↦ subst IsOnCurve (sym (ap (λ v. add (at x1 y1) v) e ∙ add_negative (at x1 y1) a)) infinity_on_curve
  | inr m ↦ subst IsOnCurve (sym m.is) (sum_on_curve x1 y1 x2 y2 m)
]

-- a point added to itself is doubled
pub add_itself : (p : Point) → IsOnCurve p → add p p ≡ double p
add_itself infinity h = add_infinity infinity ∙ sym double_infinity
add_itself (at x y) h = add_same x y x y refl refl

pub double_on_curve : (p : Point) → IsOnCurve p → IsOnCurve (double p)
double_on_curve p h = subst IsOnCurve (add_itself p h) (add_on_curve p p h h)

pub multiple_on_curve : (k : ℕ) (p : Point) → IsOnCurve p → IsOnCurve (multiple k p)
unfolding multiple
multiple_on_curve zero p h = infinity_on_curve
multiple_on_curve (suc k) p h = add_on_curve (multiple k p) p (multiple_on_curve k p h) h

pub base_on_curve : IsOnCurve base
unfolding IsOnCurve base prime curve_b
base_on_curve = (lit< tt, lit< tt, refl)
