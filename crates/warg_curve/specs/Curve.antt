-- The points of the curve P-256 and their addition (SEC 1, 2.2.1; the base point of SEC 2, 2.4.2).
use Rattle.std.specs.Prelude.{ℕ, zero, suc, ◌==◌, if◌then◌else◌}
use Rattle.warg_curve.specs.Field.{prime, minus, times}

-- a point of the curve y ^ 2 = x ^ 3 - 3 x + b over the field, or the point at infinity
pub data Point : Type 0 where
  infinity : Point
  at : (x : ℕ) → (y : ℕ) → Point

-- the largest number below n whose product with a is 1, or 0 where there is none
unfoldable pub inverse_below : ℕ → ℕ → ℕ
inverse_below zero a = 0
inverse_below (suc n) a = if times a n == 1 then n else inverse_below n a

-- 1 / a in the field
unfoldable pub inverse : ℕ → ℕ
inverse a = inverse_below prime a

-- a / b in the field
abbrev pub quotient : ℕ → ℕ → ℕ
quotient a b = times a (inverse b)

-- the point where a line of this slope through (x1, y1) meets the curve again, beside x2, mirrored
abbrev pub third : ℕ → ℕ → ℕ → ℕ → Point
third slope x1 y1 x2 =
    at (minus (minus (times slope slope) x1) x2)
    (minus (times slope (minus x1 (minus (minus (times slope slope) x1) x2))) y1)

-- (3 x ^ 2 - 3) / (2 y), the slope of the tangent
abbrev pub tangent_slope : ℕ → ℕ → ℕ
tangent_slope x y = quotient (minus (times 3 (times x x)) 3) (times 2 y)

-- (y2 - y1) / (x2 - x1), the slope of the line through two points
abbrev pub chord_slope : ℕ → ℕ → ℕ → ℕ → ℕ
chord_slope x1 y1 x2 y2 = quotient (minus y2 y1) (minus x2 x1)

-- the sum of a point and itself
unfoldable pub double : Point → Point
double infinity = infinity
double (at x y) = if y == 0 then infinity else third (tangent_slope x y) x y x

-- the sum of two points of the curve: two with one x are one point, or each other's mirror images
unfoldable pub add : Point → Point → Point
add infinity b = b
add (at x1 y1) infinity = at x1 y1
add (at x1 y1) (at x2 y2) =
    if x1 == x2 then (if y1 == y2 then double (at x1 y1) else infinity)
    else third (chord_slope x1 y1 x2 y2) x1 y1 x2

-- the base point
unfoldable pub base : Point
base =
    at 0x6b17d1f2e12c4247f8bce6e563a440f277037d812deb33a0f4a13945d898c296
    0x4fe342e2fe1a7f9b8ee7eb4a7c0f9e162bce33576b315ececbb6406837bf51f5
