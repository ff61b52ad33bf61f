use Rattle.std.proofs.Common.{◌≡◌, ◌≢◌, ℕ, suc, ◌*◌, List, [], ◌∷◌, Bool, true, false, not, eqb, ltb, ◌&&◌, ap, sym, ◌∙◌, refl, subst, eq-eqb}
use Rattle.std.proofs.lemmas.Bool.{eqb-true, ltb-true, false≢true}
use Rattle.warg_curve.specs.Field.{prime, minus, times}
use Rattle.warg_curve.specs.Curve.{Point, at, third, double, add}
use Rattle.warg_curve.specs.Group.{IsOnCurve, multiple}
use Rattle.warg_curve.proofs.Slopes.{chord_sum, tangent_sum}
use Rattle.warg_curve.proofs.OnCurve.{x_below, y_below, same_point, multiple_on_curve}
use Rattle.warg_curve.proofs.GroupMultiples.{multiple_more, multiple_double}

-- a step from k P to 2 k P by the tangent's slope, or to (k + 1) P by the chord's
pub data Step : Type 0 where
  twice : (slope : ℕ) → Step
  once : (slope : ℕ) → Step

unfoldable pub is_tangent : ℕ → ℕ → ℕ → Bool
is_tangent s x y = not (eqb y 0) && (ltb s prime && eqb (times s (times 2 y)) (minus (times 3 (times x x)) 3))

unfoldable pub is_chord : ℕ → ℕ → ℕ → ℕ → ℕ → Bool
is_chord s x y a b = not (eqb x a) && (ltb s prime && eqb (times s (minus a x)) (minus b y))

abbrev third_x : ℕ → ℕ → ℕ → ℕ
third_x s x a = minus (minus (times s s) x) a

-- whether the steps lead from k (a, b) = (x, y) to l (a, b) = (u, v)
unfoldable pub leads : ℕ → ℕ → List Step → ℕ → ℕ → ℕ → ℕ → ℕ → ℕ → Bool
leads a b [] k x y l u v = eqb k l && (eqb x u && eqb y v)
leads a b (twice s ∷ t) k x y l u v =
    is_tangent s x y && leads a b t (2 * k) (third_x s x x) (minus (times s (minus x (third_x s x x))) y) l u v
leads a b (once s ∷ t) k x y l u v =
    is_chord s x y a b && leads a b t (suc k) (third_x s x a) (minus (times s (minus x (third_x s x a))) y) l u v

both : (a b : Bool) → (a && b) ≡ true → (a ≡ true) × (b ≡ true)
both true b h = (refl, h)
both false b h = absurd (false≢true h)

differ : (a b : ℕ) → not (eqb a b) ≡ true → a ≢ b
differ a b h e = false≢true (sym (ap not (eq-eqb a b e)) ∙ h)

tangent_step : (s x y : ℕ) → IsOnCurve (at x y) → is_tangent s x y ≡ true → double (at x y) ≡ third s x y x
unfolding is_tangent
tangent_step s x y h c =
    let d = both (not (eqb y 0)) (ltb s prime && eqb (times s (times 2 y)) (minus (times 3 (times x x)) 3)) c in
    let e = both (ltb s prime) (eqb (times s (times 2 y)) (minus (times 3 (times x x)) 3)) d.1 in
    tangent_sum x y s (y_below x y h) (ltb-true s prime e.0) (differ y 0 d.0)
    (eqb-true (times s (times 2 y)) (minus (times 3 (times x x)) 3) e.1)

chord_step : (s x y a b : ℕ) → IsOnCurve (at x y) → IsOnCurve (at a b) → is_chord s x y a b ≡ true → add (at x y) (at a b) ≡ third s x y a
unfolding is_chord
chord_step s x y a b h g c =
    let d = both (not (eqb x a)) (ltb s prime && eqb (times s (minus a x)) (minus b y)) c in
    let e = both (ltb s prime) (eqb (times s (minus a x)) (minus b y)) d.1 in
    chord_sum x y a b s (x_below x y h) (x_below a b g) (ltb-true s prime e.0) (differ x a d.0)
    (eqb-true (times s (minus a x)) (minus b y) e.1)

-- where the steps lead
pub led : (a b : ℕ) (p : Point) → p ≡ at a b → IsOnCurve p → (t : List Step) (k x y l u v : ℕ) → multiple k p ≡ at x y →
    leads a b t k x y l u v ≡ true → multiple l p ≡ at u v
unfolding leads
led a b p e h [] k x y l u v m c =
    let d = both (eqb k l) (eqb x u && eqb y v) c in
    let f = both (eqb x u) (eqb y v) d.1 in
    ap (λ w. multiple w p) (sym (eqb-true k l d.0)) ∙ m ∙ same_point x y u v (eqb-true x u f.0) (eqb-true y v f.1)
led a b p e h (twice s ∷ t) k x y l u v m c =
    let x3 : ℕ = third_x s x x in
    let y3 : ℕ = minus (times s (minus x (third_x s x x))) y in
    let d = both (is_tangent s x y) (leads a b t (2 * k) (third_x s x x) (minus (times s (minus x (third_x s x x))) y) l u v) c in
    let on = subst IsOnCurve m (multiple_on_curve k p h) in
    led a b p e h t (2 * k) (third_x s x x) (minus (times s (minus x (third_x s x x))) y) l u v
    (multiple_double k p h ∙ ap double m ∙ tangent_step s x y on d.0) d.1
led a b p e h (once s ∷ t) k x y l u v m c =
    let d = both (is_chord s x y a b) (leads a b t (suc k) (third_x s x a) (minus (times s (minus x (third_x s x a))) y) l u v) c in
    let on = subst IsOnCurve m (multiple_on_curve k p h) in
    led a b p e h t (suc k) (third_x s x a) (minus (times s (minus x (third_x s x a))) y) l u v
    (multiple_more k p ∙ ap (λ w. add w p) m ∙ ap (λ w. add (at x y) w) e ∙ chord_step s x y a b on (subst IsOnCurve e h) d.0) d.1
