use Rattle.std.proofs.Common.{◌≡◌, ◌≢◌, ℕ, ◌+◌, ◌-◌, ◌*◌, ◌%◌, ◌<◌, sym, ◌∙◌, refl, subst, lit<, arith}
use Rattle.std.proofs.lemmas.Bool.{cond-true, cond-false, eq-eqb, ne_eqb}
use Rattle.std.proofs.Math.Nat.{mod-eq_of_lt, mod-lt, mul-zero}
use Rattle.warg_primes.proofs.Congruent.{Same, same, same_of, same_mod, back, then, both_times, both_plus, minus_is}
use Rattle.warg_curve.specs.Field.{prime, minus, times}
use Rattle.warg_curve.specs.Curve.{Point, infinity, at, inverse, quotient, third, tangent_slope, chord_slope, double, add}

-- each number of the field but 0 has an inverse: the prime is one
abbrev pub HasInverses : Type 0
HasInverses = (a : ℕ) → a < prime → a ≢ 0 → times a (inverse a) ≡ 1

-- -1 in the field
abbrev pub low : ℕ
low = 0xffffffff00000001000000000000000000000000fffffffffffffffffffffffe

pub low_is : prime ≡ low + 1
unfolding prime
low_is = refl

pub prime_pos : 0 < prime
unfolding prime
prime_pos = lit< tt

pub three_below : 3 < prime
unfolding prime
three_below = lit< tt

pub two_below : 2 < prime
unfolding prime
two_below = lit< tt

-- a remainder is the same as the whole
pub whole : (a : ℕ) → Same prime (a % prime) a
whole a = same_mod prime (a % prime) a refl

pub reduced : (v w : ℕ) → v ≡ w % prime → v < prime
reduced v w e = subst (λ n. n < prime) (sym e) (mod-lt w prime_pos)

pub minus_as : (a b : ℕ) → b < prime → Same prime (minus a b) (a + low * b)
minus_as a b h = then (whole (a + (prime - b))) (minus_is prime low a b low_is h)

pub same_reduced : (a b : ℕ) → a < prime → Same prime a b → a ≡ b % prime
same_reduced a b h s = sym (mod-eq_of_lt h) ∙ s.is

pub times_below : (a b : ℕ) → times a b < prime
times_below a b = mod-lt (a * b) prime_pos

pub zero_mod : 0 % prime ≡ 0
zero_mod = mod-eq_of_lt prime_pos

-- numbers of the field that are the same modulo the prime are one
pub one_number : (a b : ℕ) → a < prime → b < prime → Same prime a b → a ≡ b
one_number a b ha hb s = sym (mod-eq_of_lt ha) ∙ s.is ∙ mod-eq_of_lt hb

-- a product is 0 only where a factor is
pub zero_factor : HasInverses → (a b : ℕ) → a < prime → b < prime → a ≢ 0 → b ≢ 0 → times a b ≢ 0
zero_factor inv a b ha hb na nb e =
    let one : Same prime (a * inverse a) 1 = then (back (whole (a * inverse a))) (same_of _ _ (inv a ha na)) in
    let none : Same prime (a * b) 0 = then (back (whole (a * b))) (same_of _ _ e) in
    let e1 : b ≡ 1 * b = omega arith in
    let e2 : (a * inverse a) * b ≡ inverse a * (a * b) = omega arith in
    let e3 : inverse a * 0 ≡ 0 = mul-zero (inverse a) in
    nb (one_number b 0 hb prime_pos
    (then (same_of _ _ e1) (then (both_times (back one) (same b)) (then (same_of _ _ e2) (then (both_times (same (inverse a)) none) (same_of _ _ e3))))))

-- a quotient times the divisor is the dividend
pub quotient_times : HasInverses → (a b c : ℕ) → Same prime b c → b < prime → b ≢ 0 → Same prime (quotient a b * c) a
quotient_times inv a b c s hb nb =
    let one : Same prime (b * inverse b) 1 = then (back (whole (b * inverse b))) (same_of _ _ (inv b hb nb)) in
    let e1 : a * inverse b * b ≡ a * (b * inverse b) = omega arith in
    let e2 : a * 1 ≡ a = omega arith in
    then (both_times (whole (a * inverse b)) (back s)) (then (same_of _ _ e1) (then (both_times (same a) one) (same_of _ _ e2)))

pub double_flat : (x y : ℕ) → y ≡ 0 → double (at x y) ≡ infinity
unfolding double
double_flat x y e = cond-true _ _ _ (eq-eqb y 0 e)

pub double_sloped : (x y : ℕ) → y ≢ 0 → double (at x y) ≡ third (tangent_slope x y) x y x
unfolding double
double_sloped x y n = cond-false _ _ _ (ne_eqb y 0 n)

pub double_infinity : double infinity ≡ infinity
unfolding double
double_infinity = refl

pub add_infinity : (b : Point) → add infinity b ≡ b
unfolding add
add_infinity b = refl

pub add_right : (a : Point) → add a infinity ≡ a
unfolding add
add_right infinity = refl
add_right (at x y) = refl

pub add_chord : (x1 y1 x2 y2 : ℕ) → x1 ≢ x2 → add (at x1 y1) (at x2 y2) ≡ third (chord_slope x1 y1 x2 y2) x1 y1 x2
unfolding add
add_chord x1 y1 x2 y2 n = cond-false _ _ _ (ne_eqb x1 x2 n)

pub add_mirrored : (x1 y1 x2 y2 : ℕ) → x1 ≡ x2 → y1 ≢ y2 → add (at x1 y1) (at x2 y2) ≡ infinity
unfolding add
add_mirrored x1 y1 x2 y2 e n = cond-true _ _ _ (eq-eqb x1 x2 e) ∙ cond-false _ _ _ (ne_eqb y1 y2 n)

pub add_same : (x1 y1 x2 y2 : ℕ) → x1 ≡ x2 → y1 ≡ y2 → add (at x1 y1) (at x2 y2) ≡ double (at x1 y1)
unfolding add
add_same x1 y1 x2 y2 e f = cond-true _ _ _ (eq-eqb x1 x2 e) ∙ cond-true _ _ _ (eq-eqb y1 y2 f)

-- the coordinates of the third point, with - a as low * a
pub third_x_as : (slope x1 x2 : ℕ) → x1 < prime → x2 < prime → Same prime (minus (minus (times slope slope) x1) x2) (slope * slope + low * x1 + low * x2)
third_x_as slope x1 x2 h1 h2 =
    then (minus_as (minus (times slope slope) x1) x2 h2)
    (both_plus (then (minus_as (times slope slope) x1 h1) (both_plus (whole (slope * slope)) (same (low * x1)))) (same (low * x2)))

pub third_y_as : (slope x1 y1 x3 w : ℕ) → x3 < prime → y1 < prime → Same prime x3 w → Same prime (minus (times slope (minus x1 x3)) y1) (slope * (x1 + low * w) + low * y1)
third_y_as slope x1 y1 x3 w h3 hy s =
    let line : Same prime (times slope (minus x1 x3)) (slope * (x1 + low * w)) =
    then (whole (slope * minus x1 x3)) (both_times (same slope) (then (minus_as x1 x3 h3) (both_plus (same x1) (both_times (same low) s)))) in
    then (minus_as (times slope (minus x1 x3)) y1 hy) (both_plus line (same (low * y1)))
