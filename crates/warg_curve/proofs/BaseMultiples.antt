use Rattle.std.proofs.Common.{◌≡◌, ◌≢◌, ℕ, zero, suc, ◌+◌, ◌-◌, ◌<◌, ◌==◌, Bool, true, not, ◌&&◌, nat_lt}
use Rattle.std.proofs.Common.{List, [], ◌∷◌, length, get_or, ap, sym, ◌∙◌, refl, lit<, subst, arith}
use Rattle.std.proofs.lemmas.Bool.{and_parts, ltb-true, eqb-true, eqb-false, not-true}
use Rattle.std.proofs.Math.Nat.{mod-lt}
use Rattle.warg_curve.specs.Field.{prime, minus, times}
use Rattle.warg_curve.specs.Curve.{Point, at, add, base}
use Rattle.warg_curve.specs.Group.{multiple}
use Rattle.warg_curve.proofs.CurveFacts.{prime_pos, add_infinity, add_same}
use Rattle.warg_curve.proofs.Slopes.{chord_sum, tangent_sum}
use Rattle.warg_curve.proofs.BaseSlopes.{base_slopes}

-- the coordinates of the base point
abbrev base_x : ℕ
base_x = 0x6b17d1f2e12c4247f8bce6e563a440f277037d812deb33a0f4a13945d898c296

abbrev base_y : ℕ
base_y = 0x4fe342e2fe1a7f9b8ee7eb4a7c0f9e162bce33576b315ececbb6406837bf51f5

-- the sum of (x, y) and the base point, where the line through them has this slope
abbrev next_x : ℕ → ℕ → ℕ
next_x slope x = minus (minus (times slope slope) x) base_x

abbrev next_y : ℕ → ℕ → ℕ → ℕ
next_y slope x y = minus (times slope (minus x (next_x slope x))) y

-- the tangent at the base point has this slope
abbrev is_tangent : ℕ → Bool
is_tangent slope = nat_lt slope prime && times slope (times 2 base_y) == minus (times 3 (times base_x base_x)) 3

-- the line through the base point and (x, y), whose x is another, has this slope
abbrev is_chord : ℕ → ℕ → ℕ → Bool
is_chord slope x y = nat_lt slope prime && (not (x == base_x) && times slope (minus base_x x) == minus base_y y)

-- the slopes are those of the chord through (x, y) and the base point, then of the one through their sum and it, and so on
are_chords : List ℕ → ℕ → ℕ → Bool
are_chords [] x y = true
are_chords (slope ∷ slopes) x y = is_chord slope x y && are_chords slopes (next_x slope x) (next_y slope x y)

-- the slopes are that of the tangent at the base point, and then those of the chords from its double on
are_slopes : List ℕ → Bool
are_slopes [] = true
are_slopes (slope ∷ slopes) = is_tangent slope && are_chords slopes (next_x slope base_x) (next_y slope base_x base_y)

-- (x, y) and the sums that the slopes lead to, one after another
unfoldable pub points : List ℕ → ℕ → ℕ → List Point
points [] x y = at x y ∷ []
points (slope ∷ slopes) x y = at x y ∷ points slopes (next_x slope x) (next_y slope x y)

-- the base point and its coordinates, which are numbers of the field
base_is : base ≡ at base_x base_y
unfolding base
base_is = refl

base_x_below : base_x < prime
unfolding prime
base_x_below = lit< tt

base_y_below : base_y < prime
unfolding prime
base_y_below = lit< tt

base_y_not_zero : base_y ≢ 0
base_y_not_zero e = absurd (omega arith)

-- a difference is a number of the field
minus_below : (a b : ℕ) → minus a b < prime
minus_below a b = mod-lt (a + (prime - b)) prime_pos

-- once the base point
first_multiple : multiple 1 base ≡ at base_x base_y
unfolding multiple
first_multiple = add_infinity base ∙ base_is

-- once more
next_multiple : (k : ℕ) → multiple (suc k) base ≡ add (multiple k base) base
unfolding multiple
next_multiple k = refl

-- a chord leads from a multiple to the next
along_chord : (slope k x y : ℕ) → x < prime → multiple k base ≡ at x y → is_chord slope x y ≡ true →
    multiple (suc k) base ≡ at (next_x slope x) (next_y slope x y)
along_chord slope k x y h m e =
    let parts = and_parts (nat_lt slope prime) _ e in
    let rest = and_parts (not (x == base_x)) _ parts.1 in
    next_multiple k ∙ ap (λ p. add p base) m ∙ ap (λ p. add (at x y) p) base_is
    ∙ chord_sum x y base_x base_y slope h base_x_below (ltb-true slope prime parts.0)
    (eqb-false x base_x (not-true (x == base_x) rest.0)) (eqb-true _ _ rest.1)

-- the tangent leads to twice the base point
along_tangent : (slope : ℕ) → is_tangent slope ≡ true →
    multiple 2 base ≡ at (next_x slope base_x) (next_y slope base_x base_y)
along_tangent slope e =
    let parts = and_parts (nat_lt slope prime) _ e in
    next_multiple 1 ∙ ap (λ p. add p base) first_multiple ∙ ap (λ p. add (at base_x base_y) p) base_is
    ∙ add_same base_x base_y base_x base_y refl refl
    ∙ tangent_sum base_x base_y slope base_y_below (ltb-true slope prime parts.0) base_y_not_zero (eqb-true _ _ parts.1)

-- from k times the base point on, chords lead to its next multiples
chords_lead : (slopes : List ℕ) (k x y i : ℕ) (d : Point) → x < prime → multiple k base ≡ at x y →
    are_chords slopes x y ≡ true → i < length (points slopes x y) →
    multiple (i + k) base ≡ get_or (points slopes x y) i d
unfolding are_chords points
chords_lead [] k x y zero d h m e b = let z : 0 + k ≡ k = omega arith in ap (λ n. multiple n base) z ∙ m
chords_lead [] k x y (suc i) d h m e b = absurd (omega arith)
chords_lead (slope ∷ slopes) k x y zero d h m e b = let z : 0 + k ≡ k = omega arith in ap (λ n. multiple n base) z ∙ m
chords_lead (slope ∷ slopes) k x y (suc i) d h m e b =
    let parts = and_parts (is_chord slope x y) _ e in
    let z : suc i + k ≡ i + suc k = omega arith in
    ap (λ n. multiple n base) z
    ∙ chords_lead slopes (suc k) (next_x slope x) (next_y slope x y) i d (minus_below _ base_x)
    (along_chord slope k x y h m parts.0) parts.1 (omega arith)

-- from the base point on, lines of these slopes lead to its multiples
slopes_lead : (slopes : List ℕ) (i : ℕ) (d : Point) → are_slopes slopes ≡ true →
    i < length (points slopes base_x base_y) → multiple (i + 1) base ≡ get_or (points slopes base_x base_y) i d
unfolding are_slopes points
slopes_lead [] zero d e b = first_multiple
slopes_lead [] (suc i) d e b = absurd (omega arith)
slopes_lead (slope ∷ slopes) zero d e b = first_multiple
slopes_lead (slope ∷ slopes) (suc i) d e b =
    let parts = and_parts (is_tangent slope) _ e in
    let z : suc i + 1 ≡ i + 2 = omega arith in
    ap (λ n. multiple n base) z
    ∙ chords_lead slopes 2 (next_x slope base_x) (next_y slope base_x base_y) i d (minus_below _ base_x)
    (along_tangent slope parts.0) parts.1 (omega arith)

-- the base point and the points that the slopes lead to
unfoldable pub base_multiples : List Point
base_multiples = points base_slopes base_x base_y

-- the slopes are right, by computing
slopes_are : are_slopes base_slopes ≡ true
unfolding are_slopes are_chords base_slopes prime
slopes_are = refl

-- the base point and its next multiples are 255, by computing
length_is : length base_multiples ≡ 255
unfolding base_multiples points base_slopes
length_is = refl

-- the multiples 1 to 255 of the base point
pub base_multiple : (i : ℕ) (d : Point) → i < 255 → multiple (i + 1) base ≡ get_or base_multiples i d
unfolding base_multiples
base_multiple i d h = slopes_lead base_slopes i d slopes_are (subst (λ n. i < n) (sym length_is) h)
