use Rattle.std.proofs.Common.{ℕ, ◌+◌, ◌*◌, inl, inr, eq-eqb, arith}
use Rattle.std.proofs.lemmas.Bool.{false≢true}
use Rattle.warg_primes.proofs.Congruent.{Same, back, then}
use Rattle.warg_curve.specs.Field.{prime}
use Rattle.warg_curve.specs.Group.{curve_b}
use Rattle.warg_curve.proofs.Relations.{◌⊕◌, ◌⊙◌, follows, product_zero}

-- y ^ 2 is x ^ 3 - 3 x + b modulo the prime
abbrev pub Satisfies : ℕ → ℕ → Type 0
Satisfies x y = Same prime (y * y + 3 * x) (x * x * x + curve_b)

-- the line y = s x + c meets the curve at (x1, y1), at (x2, y2) and above or below (x3, y3):
-- x ^ 3 - 3 x + b - (s x + c) ^ 2 is (x - x1) (x - x2) (x - x3)
pub record Meets (s c x1 y1 x2 y2 x3 y3 : ℕ) : Type 0 where
  pub first : Same prime y1 (s * x1 + c)
  pub second : Same prime y2 (s * x2 + c)
  pub third : Same prime (y3 + (s * x3 + c)) 0
  pub squares : Same prime (x1 + x2 + x3) (s * s)
  pub products : Same prime (x1 * x2 + x1 * x3 + x2 * x3 + 3 + 2 * (s * c)) 0
  pub constant : Same prime (curve_b + x1 * x2 * x3) (c * c)

-- b is neither 2 nor - 2
smooth : Same prime (432 * (curve_b * curve_b)) 1728 → ⊥
unfolding prime curve_b
smooth s = false≢true (eq-eqb _ _ s.is)

-- the curve has no singular point: where y is 0, 3 x ^ 2 - 3 is not
pub regular : (x y : ℕ) → Satisfies x y → Same prime (2 * y) 0 → Same prime (3 * (x * x)) 3 → ⊥
regular x y a z t =
    let h : Same prime (24 * x) (12 * curve_b) =
    follows ((6 * y) ⊙ z ⊕ 12 ⊙ back a ⊕ (4 * x) ⊙ back t)
    (omega arith) in
    smooth
    (follows ((36 * curve_b + 72 * x) ⊙ h ⊕ 576 ⊙ back t)
    (omega arith))

-- the third point is on the curve
pub third_satisfies : (s c x1 y1 x2 y2 x3 y3 : ℕ) → Meets s c x1 y1 x2 y2 x3 y3 → Satisfies x3 y3
third_satisfies s c x1 y1 x2 y2 x3 y3 m =
    follows (y3 ⊙ back m.third ⊕ (c + s * x3) ⊙ m.third ⊕ (x3 * x3) ⊙ m.squares ⊕ x3 ⊙ back m.products ⊕ m.constant)
    (omega arith)

-- the line through two points of the curve that are not above each other
pub chord_meets : (s c x1 y1 x2 y2 x3 y3 : ℕ) → Satisfies x1 y1 → Satisfies x2 y2 → (Same prime x1 x2 → ⊥) →
    Same prime (s * x2 + y1) (s * x1 + y2) →
    Same prime y1 (s * x1 + c) →
    Same prime (x1 + x2 + x3) (s * s) →
    Same prime (y3 + y1 + s * x3) (s * x1) →
    Meets s c x1 y1 x2 y2 x3 y3
chord_meets s c x1 y1 x2 y2 x3 y3 a b n e f g h =
    let second : Same prime y2 (s * x2 + c) =
    follows (e ⊕ back f)
    (omega arith) in
    let product : Same prime (x1 * (x1 * x2 + x1 * x3 + x2 * x3 + 3 + 2 * (s * c)) + x2 * 0) (x1 * 0 + x2 * (x1 * x2 + x1 * x3 + x2 * x3 + 3 + 2 * (s * c))) =
    follows (back a ⊕ b ⊕ (s * x2) ⊙ back f ⊕ (y1 + y2 + s * x1) ⊙ f ⊕ (y1 + y2 + s * x2) ⊙ back second ⊕ (s * x1) ⊙ second
    ⊕ (x1 * x1) ⊙ back g ⊕ (x2 * x2) ⊙ g)
    (omega arith) in
    let products : Same prime (x1 * x2 + x1 * x3 + x2 * x3 + 3 + 2 * (s * c)) 0 =
    elim (product_zero x1 x2 (x1 * x2 + x1 * x3 + x2 * x3 + 3 + 2 * (s * c)) 0 product) [ inl y ↦ absurd (n y) | inr y ↦ y ] in
    record {
      first = f;
      second = second;
      third =
          follows (f ⊕ back h)
          (omega arith);
      squares = g;
      products = products;
      constant =
          follows (a ⊕ (c + y1 + s * x1) ⊙ back f ⊕ (x1 * x1) ⊙ g ⊕ x1 ⊙ back products)
          (omega arith);
    }

-- the tangent at a point of the curve
pub tangent_meets : (s c x1 y1 x3 y3 : ℕ) → Satisfies x1 y1 →
    Same prime (2 * (s * y1) + 3) (3 * (x1 * x1)) →
    Same prime y1 (s * x1 + c) →
    Same prime (x1 + x1 + x3) (s * s) →
    Same prime (y3 + y1 + s * x3) (s * x1) →
    Meets s c x1 y1 x1 y1 x3 y3
tangent_meets s c x1 y1 x3 y3 a e f g h =
    let products : Same prime (x1 * x1 + x1 * x3 + x1 * x3 + 3 + 2 * (s * c)) 0 =
    follows (back e ⊕ (2 * s) ⊙ f ⊕ (2 * x1) ⊙ back g)
    (omega arith) in
    record {
      first = f;
      second = f;
      third =
          follows (f ⊕ back h)
          (omega arith);
      squares = g;
      products = products;
      constant =
          follows (a ⊕ (c + y1 + s * x1) ⊙ back f ⊕ (x1 * x1) ⊙ g ⊕ x1 ⊙ back products)
          (omega arith);
    }

-- the first and the second point may be told the other way round
pub swapped : (s c x1 y1 x2 y2 x3 y3 : ℕ) → Meets s c x1 y1 x2 y2 x3 y3 → Meets s c x2 y2 x1 y1 x3 y3
swapped s c x1 y1 x2 y2 x3 y3 m =
    record {
      first = m.second;
      second = m.first;
      third = m.third;
      squares =
          follows (back m.squares)
          (omega arith);
      products =
          follows (back m.products)
          (omega arith);
      constant =
          follows (back m.constant)
          (omega arith);
    }

-- the mirror image of the whole: minus s and minus c, and minus each y
pub mirrored : (s c x1 y1 x2 y2 x3 y3 s1 c1 z1 z2 z3 : ℕ) → Meets s c x1 y1 x2 y2 x3 y3 → Same prime (s1 + s) 0 → Same prime (c1 + c) 0 →
    Same prime (z1 + y1) 0 →
    Same prime (z2 + y2) 0 →
    Same prime (z3 + y3) 0 →
    Meets s1 c1 x1 z1 x2 z2 x3 z3
mirrored s c x1 y1 x2 y2 x3 y3 s1 c1 z1 z2 z3 m hs hc h1 h2 h3 =
    record {
      first =
          follows (m.first ⊕ x1 ⊙ hs ⊕ hc ⊕ back h1)
          (omega arith);
      second =
          follows (m.second ⊕ x2 ⊙ hs ⊕ hc ⊕ back h2)
          (omega arith);
      third =
          follows (m.third ⊕ x3 ⊙ back hs ⊕ back hc ⊕ back h3)
          (omega arith);
      squares =
          follows (back m.squares ⊕ s ⊙ back hs ⊕ s1 ⊙ hs)
          (omega arith);
      products =
          follows (back m.products ⊕ (2 * c) ⊙ hs ⊕ (2 * s1) ⊙ back hc)
          (omega arith);
      constant =
          follows (back m.constant ⊕ c ⊙ back hc ⊕ c1 ⊙ hc)
          (omega arith);
    }

-- from a line through - A and C to D, the mirrored line through A and D to C
pub turned : (s c x1 y1 x2 y2 x3 y3 s1 c1 z1 : ℕ) → Meets s c x1 y1 x2 y2 x3 y3 → Same prime (s1 + s) 0 → Same prime (c1 + c) 0 → Same prime (z1 + y1) 0 →
    Meets s1 c1 x1 z1 x3 y3 x2 y2
turned s c x1 y1 x2 y2 x3 y3 s1 c1 z1 m hs hc h1 =
    record {
      first =
          follows (m.first ⊕ x1 ⊙ hs ⊕ hc ⊕ back h1)
          (omega arith);
      second =
          follows (back m.third ⊕ x3 ⊙ hs ⊕ hc)
          (omega arith);
      third =
          follows (back m.second ⊕ x2 ⊙ back hs ⊕ back hc)
          (omega arith);
      squares =
          follows (back m.squares ⊕ s ⊙ back hs ⊕ s1 ⊙ hs)
          (omega arith);
      products =
          follows (back m.products ⊕ (2 * c) ⊙ hs ⊕ (2 * s1) ⊙ back hc)
          (omega arith);
      constant =
          follows (back m.constant ⊕ c ⊙ back hc ⊕ c1 ⊙ hc)
          (omega arith);
    }

-- where the first two points are one, the line is the tangent
pub touches : (s c x1 y1 x2 y2 x3 y3 : ℕ) → Meets s c x1 y1 x2 y2 x3 y3 → Same prime x1 x2 → Same prime (2 * (s * y1) + 3) (3 * (x1 * x1))
touches s c x1 y1 x2 y2 x3 y3 m d =
    follows ((2 * s * s) ⊙ back d ⊕ (x3 + 2 * x2 + 3 * x1) ⊙ d ⊕ (2 * s) ⊙ back m.first ⊕ (2 * x2) ⊙ m.squares ⊕ back m.products)
    (omega arith)

-- the points of the line above each other are one
pub one_height : (s c x1 y1 x2 y2 x3 y3 : ℕ) → Meets s c x1 y1 x2 y2 x3 y3 → Same prime x1 x2 → Same prime y1 y2
one_height s c x1 y1 x2 y2 x3 y3 m d =
    follows (s ⊙ back d ⊕ back m.first ⊕ m.second)
    (omega arith)

-- no line meets a point, and the curve, doubly, at its mirror image
pub never_mirrored : (s c x1 y1 x2 y2 x3 y3 : ℕ) → Meets s c x1 y1 x2 y2 x3 y3 → Satisfies x1 y1 → Same prime x1 x2 → Same prime (y2 + y1) 0 → ⊥
never_mirrored s c x1 y1 x2 y2 x3 y3 m a d z =
    let o : Same prime y1 y2 = one_height s c x1 y1 x2 y2 x3 y3 m d in
    let e : Same prime (2 * y1) 0 =
    follows (back o ⊕ back z)
    (omega arith) in
    let t : Same prime (2 * (s * y1) + 3) (3 * (x1 * x1)) = touches s c x1 y1 x2 y2 x3 y3 m d in
    regular x1 y1 a e
    (follows (s ⊙ back e ⊕ t)
    (omega arith))

-- the line through two points has one slope
pub one_slope : (s c x1 y1 x2 y2 x3 y3 t l u1 v1 u2 v2 u3 v3 : ℕ) → Meets s c x1 y1 x2 y2 x3 y3 → Meets t l u1 v1 u2 v2 u3 v3 → Satisfies x1 y1 →
    Same prime x1 u1 → Same prime y1 v1 → Same prime x2 u2 → Same prime y2 v2 → Same prime s t
one_slope s c x1 y1 x2 y2 x3 y3 t l u1 v1 u2 v2 u3 v3 m n a e1 f1 e2 f2 =
    let p : Same prime (x1 * s + x2 * t) (x1 * t + x2 * s) =
    follows (t ⊙ e1 ⊕ back f1 ⊕ t ⊙ back e2 ⊕ f2 ⊕ m.first ⊕ back m.second ⊕ back n.first ⊕ n.second)
    (omega arith) in
    elim (product_zero x1 x2 s t p) [
      | inl d ↦
          let i : Same prime (2 * (s * y1) + 3) (3 * (x1 * x1)) = touches s c x1 y1 x2 y2 x3 y3 m d in
          let j : Same prime (2 * (t * v1) + 3) (3 * (u1 * u1)) = touches t l u1 v1 u2 v2 u3 v3 n (then (back e1) (then d e2)) in
          let q : Same prime (2 * y1 * s + 0 * t) (2 * y1 * t + 0 * s) =
          follows ((3 * u1 + 3 * x1) ⊙ back e1 ⊕ (2 * t) ⊙ f1 ⊕ back i ⊕ j)
          (omega arith) in
          elim (product_zero (2 * y1) 0 s t q) [
            | inl z ↦ absurd (regular x1 y1 a z
                (follows (s ⊙ back z ⊕ i)
                (omega arith)))
            | inr y ↦ y
          ]
      | inr y ↦ y
    ]

-- and leads to one third point
pub one_third_x : (s c x1 y1 x2 y2 x3 y3 t l u1 v1 u2 v2 u3 v3 : ℕ) → Meets s c x1 y1 x2 y2 x3 y3 → Meets t l u1 v1 u2 v2 u3 v3 → Same prime s t →
    Same prime x1 u1 → Same prime x2 u2 → Same prime x3 u3
one_third_x s c x1 y1 x2 y2 x3 y3 t l u1 v1 u2 v2 u3 v3 m n d e1 e2 =
    follows ((s + t) ⊙ back d ⊕ e1 ⊕ e2 ⊕ back m.squares ⊕ n.squares)
    (omega arith)

pub one_third_y : (s c x1 y1 x2 y2 x3 y3 t l u1 v1 u2 v2 u3 v3 : ℕ) → Meets s c x1 y1 x2 y2 x3 y3 → Meets t l u1 v1 u2 v2 u3 v3 → Same prime s t →
    Same prime x1 u1 → Same prime y1 v1 → Same prime x3 u3 → Same prime y3 v3
one_third_y s c x1 y1 x2 y2 x3 y3 t l u1 v1 u2 v2 u3 v3 m n d e1 f1 e3 =
    follows (x1 ⊙ back d ⊕ x3 ⊙ d ⊕ t ⊙ back e1 ⊕ f1 ⊕ t ⊙ e3 ⊕ back m.first ⊕ back m.third ⊕ n.first ⊕ n.third)
    (omega arith)
