-- Which points are on the curve P-256, and their multiples (SEC 1, 2.2.1).
use Rattle.std.specs.Prelude.{◌≡◌, ℕ, zero, suc, ◌<◌}
use Rattle.warg_curve.specs.Field.{prime, plus, minus, times}
use Rattle.warg_curve.specs.Curve.{Point, infinity, at, add}

-- the b of the curve y ^ 2 = x ^ 3 - 3 x + b (SEC 2, 2.4.2)
unfoldable pub curve_b : ℕ
curve_b = 0x5ac635d8aa3a93e7b3ebbd55769886bc651d06b0cc53b0f63bce3c3e27d2604b

-- the right side of the equation, x ^ 3 - 3 x + b
abbrev pub right_side_of : ℕ → ℕ
right_side_of x = plus (minus (times (times x x) x) (plus (plus x x) x)) curve_b

-- the point at infinity, or two numbers of the field that satisfy the equation
unfoldable pub IsOnCurve : Point → Type 0
IsOnCurve infinity = Unit
IsOnCurve (at x y) = (x < prime) × (y < prime) × (times y y ≡ right_side_of x)

-- p added k times
unfoldable pub multiple : ℕ → Point → Point
multiple zero p = infinity
multiple (suc k) p = add (multiple k p) p
