use Rattle.std.proofs.Common.{ℕ, ◌+◌, ◌*◌, inl, inr, arith}
use Rattle.warg_primes.proofs.Congruent.{Same, back}
use Rattle.warg_curve.specs.Field.{prime}
use Rattle.warg_curve.proofs.Relations.{◌⊕◌, ◌⊙◌, follows, product_zero}
use Rattle.warg_curve.proofs.Lines.{Satisfies, Meets, swapped, regular, touches, one_slope}

-- In this file a line of slope s goes through A and B to D, one of slope m through D and C to F, one of slope t through B and C to E,
-- and one of slope u through A and E to G. The points are (x1, y1), .. (x7, y7) in the order A, B, C, D, E, F, G.

-- (x3 - x1) (x3 - x2) is (m + s) (y3 - s x3 - c)
apart : (s c m k x1 y1 x2 y2 x3 y3 x4 y4 x6 y6 : ℕ) → Meets s c x1 y1 x2 y2 x4 y4 → Meets m k x4 y4 x3 y3 x6 y6 → Satisfies x3 y3 →
    Same prime (x3 * x3 + x1 * x2 + (m + s) * (s * x3 + c)) ((x1 + x2) * x3 + (m + s) * y3)
apart s c m k x1 y1 x2 y2 x3 y3 x4 y4 x6 y6 ab dc on =
    let p : Same prime (x3 * (x3 * x3 + x1 * x2 + (m + s) * (s * x3 + c)) + x4 * ((x1 + x2) * x3 + (m + s) * y3))
    (x3 * ((x1 + x2) * x3 + (m + s) * y3) + x4 * (x3 * x3 + x1 * x2 + (m + s) * (s * x3 + c))) =
    follows ((m * x3 + s * x4) ⊙ back ab.third ⊕ (m * x4 + s * x3) ⊙ ab.third ⊕ (x4 * x4) ⊙ back ab.squares ⊕ (x3 * x3) ⊙ ab.squares
    ⊕ x3 ⊙ back ab.products ⊕ x4 ⊙ ab.products ⊕ (m * x4 + s * x3) ⊙ back dc.first ⊕ (m * x3 + s * x4) ⊙ dc.first
    ⊕ (m * x4 + s * x4) ⊙ back dc.second ⊕ (m * x3 + s * x3) ⊙ dc.second ⊕ (x3 * x3) ⊙ back dc.squares ⊕ (x4 * x4) ⊙ dc.squares
    ⊕ x4 ⊙ back dc.products ⊕ x3 ⊙ dc.products)
    (omega arith) in
    elim (product_zero x3 x4 (x3 * x3 + x1 * x2 + (m + s) * (s * x3 + c)) ((x1 + x2) * x3 + (m + s) * y3) p) [
      | inl d ↦
          follows ((x3 + x6 + s * s) ⊙ back d ⊕ (x1 + x2 + m * m) ⊙ d ⊕ m ⊙ back ab.third ⊕ s ⊙ ab.third ⊕ (2 * x4) ⊙ ab.squares ⊕ back ab.products
          ⊕ s ⊙ back dc.first ⊕ m ⊙ dc.first ⊕ (m + s) ⊙ dc.second ⊕ (2 * x4) ⊙ back dc.squares ⊕ dc.products)
          (omega arith)
      | inr y ↦ y
    ]

-- (m + s) (t - s) is x3 - x1
pub turn : (s c m k t l x1 y1 x2 y2 x3 y3 x4 y4 x5 y5 x6 y6 : ℕ) → Meets s c x1 y1 x2 y2 x4 y4 → Meets m k x4 y4 x3 y3 x6 y6 →
    Meets t l x2 y2 x3 y3 x5 y5 →
    Satisfies x2 y2 → Satisfies x3 y3 → Same prime ((m + s) * t + x1) ((m + s) * s + x3)
turn s c m k t l x1 y1 x2 y2 x3 y3 x4 y4 x5 y5 x6 y6 ab dc bc on2 on3 =
    let a : Same prime (x3 * x3 + x1 * x2 + (m + s) * (s * x3 + c)) ((x1 + x2) * x3 + (m + s) * y3) =
    apart s c m k x1 y1 x2 y2 x3 y3 x4 y4 x6 y6 ab dc on3 in
    let p : Same prime (x3 * ((m + s) * t + x1) + x2 * ((m + s) * s + x3)) (x3 * ((m + s) * s + x3) + x2 * ((m + s) * t + x1)) =
    follows (a ⊕ (m + s) ⊙ ab.second ⊕ (m + s) ⊙ back bc.first ⊕ (m + s) ⊙ bc.second)
    (omega arith) in
    elim (product_zero x3 x2 ((m + s) * t + x1) ((m + s) * s + x3) p) [
      | inl d ↦
          let g : Same prime (2 * (t * y2) + 3) (3 * (x2 * x2)) = touches t l x2 y2 x3 y3 x5 y5 bc (back d) in
          let h : Same prime y3 y2 =
          follows (t ⊙ back d ⊕ bc.first ⊕ back bc.second)
          (omega arith) in
          let q : Same prime (x2 * ((m + s) * t + x1) + x4 * ((m + s) * s + x3)) (x2 * ((m + s) * s + x3) + x4 * ((m + s) * t + x1)) =
          follows ((2 * s * s + m * s) ⊙ back d ⊕ (x4 + 2 * x1 + 3 * x2 + m * t) ⊙ d ⊕ (s + t) ⊙ ab.second ⊕ s ⊙ back ab.third ⊕ t ⊙ ab.third
          ⊕ (2 * x3) ⊙ back ab.squares ⊕ ab.products ⊕ t ⊙ back dc.first ⊕ s ⊙ dc.first ⊕ s ⊙ back dc.second ⊕ t ⊙ dc.second ⊕ back g
          ⊕ t ⊙ back h ⊕ s ⊙ h)
          (omega arith) in
          elim (product_zero x2 x4 ((m + s) * t + x1) ((m + s) * s + x3) q) [
            | inl f ↦
                let z : Same prime (2 * y2) 0 =
                follows (m ⊙ back d ⊕ (m + s) ⊙ back f ⊕ h ⊕ back ab.second ⊕ back ab.third ⊕ dc.first ⊕ back dc.second)
                (omega arith) in
                absurd (regular x2 y2 on2 z
                (follows (t ⊙ back z ⊕ g)
                (omega arith)))
            | inr y ↦ y
          ]
      | inr y ↦ y
    ]

-- m + s is u + t
pub slopes : (s c m k t l u n x1 y1 x2 y2 x3 y3 x4 y4 x5 y5 x6 y6 x7 y7 : ℕ) → Meets s c x1 y1 x2 y2 x4 y4 → Meets m k x4 y4 x3 y3 x6 y6 →
    Meets t l x2 y2 x3 y3 x5 y5 → Meets u n x1 y1 x5 y5 x7 y7 →
    Satisfies x1 y1 → Satisfies x2 y2 → Satisfies x3 y3 → Satisfies x4 y4 → Same prime (m + s) (u + t)
slopes s c m k t l u n x1 y1 x2 y2 x3 y3 x4 y4 x5 y5 x6 y6 x7 y7 ab dc bc ae on1 on2 on3 on4 =
    let t1 : Same prime ((m + s) * t + x1) ((m + s) * s + x3) = turn s c m k t l x1 y1 x2 y2 x3 y3 x4 y4 x5 y5 x6 y6 ab dc bc on2 on3 in
    let t2 : Same prime ((u + t) * s + x3) ((u + t) * t + x1) =
    turn t l u n s c x3 y3 x2 y2 x1 y1 x5 y5 x4 y4 x7 y7 (swapped t l x2 y2 x3 y3 x5 y5 bc) (swapped u n x1 y1 x5 y5 x7 y7 ae) (swapped s c x1 y1 x2 y2 x4 y4 ab) on2 on1 in
    let p : Same prime ((m + s) * t + (u + t) * s) ((m + s) * s + (u + t) * t) =
    follows (back t1 ⊕ back t2)
    (omega arith) in
    elim (product_zero (m + s) (u + t) t s p) [
      | inl y ↦ y
      | inr z ↦
          let g : Same prime x1 x3 =
          follows ((m + s) ⊙ z ⊕ back t1)
          (omega arith) in
          let f : Same prime l c =
          follows (x2 ⊙ z ⊕ back ab.second ⊕ bc.first)
          (omega arith) in
          let h : Same prime y1 y3 =
          follows (x1 ⊙ z ⊕ f ⊕ t ⊙ back g ⊕ back ab.first ⊕ bc.second)
          (omega arith) in
          let i : Same prime x4 x5 =
          follows ((s + t) ⊙ z ⊕ g ⊕ back ab.squares ⊕ bc.squares)
          (omega arith) in
          let e : Same prime y4 y5 =
          follows (x4 ⊙ back z ⊕ back f ⊕ t ⊙ i ⊕ back ab.third ⊕ bc.third)
          (omega arith) in
          let j : Same prime m u =
          one_slope m k x4 y4 x3 y3 x6 y6 u n x5 y5 x1 y1 x7 y7 dc (swapped u n x1 y1 x5 y5 x7 y7 ae) on4 i e (back g) (back h) in
          follows (z ⊕ back j)
          (omega arith)
    ]

-- both ways lead to one point
pub one_end_x : (s c m k t l u n x1 y1 x2 y2 x3 y3 x4 y4 x5 y5 x6 y6 x7 y7 : ℕ) → Meets s c x1 y1 x2 y2 x4 y4 → Meets m k x4 y4 x3 y3 x6 y6 →
    Meets t l x2 y2 x3 y3 x5 y5 → Meets u n x1 y1 x5 y5 x7 y7 →
    Same prime (m + s) (u + t) → Same prime ((m + s) * t + x1) ((m + s) * s + x3) → Same prime x6 x7
one_end_x s c m k t l u n x1 y1 x2 y2 x3 y3 x4 y4 x5 y5 x6 y6 x7 y7 ab dc bc ae w t1 =
    follows ((m + s + u) ⊙ back w ⊕ t ⊙ w ⊕ 2 ⊙ back t1 ⊕ ab.squares ⊕ back dc.squares ⊕ back bc.squares ⊕ ae.squares)
    (omega arith)

pub one_end_y : (s c m k t l u n x1 y1 x2 y2 x3 y3 x4 y4 x5 y5 x6 y6 x7 y7 : ℕ) → Meets s c x1 y1 x2 y2 x4 y4 → Meets m k x4 y4 x3 y3 x6 y6 →
    Meets t l x2 y2 x3 y3 x5 y5 → Meets u n x1 y1 x5 y5 x7 y7 →
    Same prime (m + s) (u + t) → Same prime ((m + s) * t + x1) ((m + s) * s + x3) → Same prime x6 x7 → Same prime y6 y7
one_end_y s c m k t l u n x1 y1 x2 y2 x3 y3 x4 y4 x5 y5 x6 y6 x7 y7 ab dc bc ae w t1 x =
    follows ((x3 + s * s + m * s) ⊙ back w ⊕ (x6 + m * t + s * t) ⊙ w ⊕ (2 * s) ⊙ back t1 ⊕ (t + u) ⊙ t1 ⊕ u ⊙ x ⊕ t ⊙ back ab.squares
    ⊕ s ⊙ ab.squares ⊕ s ⊙ back dc.squares ⊕ t ⊙ dc.squares ⊕ back ab.first ⊕ ab.second ⊕ back dc.second ⊕ back dc.third
    ⊕ back bc.first ⊕ bc.second ⊕ ae.first ⊕ ae.third)
    (omega arith)
