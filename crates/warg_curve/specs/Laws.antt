-- The laws of the group of P-256 (SEC 1, 2.2.1), each as a statement.
use Rattle.std.specs.Prelude.{◌≡◌, ℕ, ◌+◌, ◌*◌, ◌%◌, ◌↔◌}
use Rattle.warg_curve.specs.Field.{minus}
use Rattle.warg_curve.specs.Order.{order}
use Rattle.warg_curve.specs.Curve.{Point, infinity, at, double, add, base}
use Rattle.warg_curve.specs.Group.{IsOnCurve, multiple}

-- the mirror image of a point, the point that added to it gives infinity
unfoldable pub negative : Point → Point
negative infinity = infinity
negative (at x y) = at x (minus 0 y)

-- the sum of two points of the curve is a point of the curve
abbrev pub SumsStay : Type 0
SumsStay = (p : Point) → (q : Point) → IsOnCurve p → IsOnCurve q → IsOnCurve (add p q)

-- P + Q is Q + P
abbrev pub SumsCommute : Type 0
SumsCommute = (p : Point) → (q : Point) → IsOnCurve p → IsOnCurve q → add p q ≡ add q p

-- (P + Q) + R is P + (Q + R)
abbrev pub SumsAssociate : Type 0
SumsAssociate =
    (p : Point) → (q : Point) → (r : Point) → IsOnCurve p → IsOnCurve q → IsOnCurve r →
    add (add p q) r ≡ add p (add q r)

-- P + infinity is P
abbrev pub HasInfinity : Type 0
HasInfinity = (p : Point) → add p infinity ≡ p

-- P + -P is infinity
abbrev pub HasNegatives : Type 0
HasNegatives =
    (p : Point) → IsOnCurve p → IsOnCurve (negative p) × (add p (negative p) ≡ infinity)

-- 2 P is P + P
abbrev pub DoublesAreSums : Type 0
DoublesAreSums = (p : Point) → IsOnCurve p → double p ≡ add p p

-- (j + k) P is j P + k P
abbrev pub MultiplesAdd : Type 0
MultiplesAdd =
    (j : ℕ) → (k : ℕ) → (p : Point) → IsOnCurve p →
    multiple (j + k) p ≡ add (multiple j p) (multiple k p)

-- (j k) P is j (k P)
abbrev pub MultiplesNest : Type 0
MultiplesNest =
    (j : ℕ) → (k : ℕ) → (p : Point) → IsOnCurve p → multiple (j * k) p ≡ multiple j (multiple k p)

-- k times the base point is infinity just where the order divides k
abbrev pub BaseHasOrder : Type 0
BaseHasOrder = (k : ℕ) → (multiple k base ≡ infinity) ↔ (k % order ≡ 0)

-- j and k times the base point are one point just where j and k are one modulo the order
abbrev pub MultiplesOfBaseDiffer : Type 0
MultiplesOfBaseDiffer =
    (j : ℕ) → (k : ℕ) → (multiple j base ≡ multiple k base) ↔ (j % order ≡ k % order)
