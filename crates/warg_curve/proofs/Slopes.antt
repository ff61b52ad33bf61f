use Rattle.std.proofs.Common.{◌≡◌, ◌≢◌, ℕ, ◌+◌, ◌-◌, ◌*◌, ◌<◌, ap, sym, ◌∙◌, arith}
use Rattle.std.proofs.Math.Nat.{mod-lt}
use Rattle.warg_primes.proofs.Congruent.{Same, same, same_of, back, then, both_times, both_plus, same_more}
use Rattle.warg_curve.specs.Field.{prime, minus, times}
use Rattle.warg_curve.specs.Curve.{at, inverse, third, chord_slope, tangent_slope, double, add}
use Rattle.warg_curve.proofs.CurveFacts.{low, low_is, prime_pos, two_below, whole, minus_as, times_below, one_number, zero_factor, quotient_times, double_sloped, add_chord}
use Rattle.warg_curve.proofs.Inverses.{has_inverses}

-- what is the same on both sides of a sum can be left out
pub cancel_term : (p q a b c d : ℕ) → p ≡ q + 1 → Same p (a + c) (b + d) → Same p c d → Same p a b
cancel_term p q a b c d e s t =
    let m : p * c ≡ (q + 1) * c = ap (λ v. v * c) e in
    let n : p * d ≡ (q + 1) * d = ap (λ v. v * d) e in
    let e1 : a + c + q * c ≡ a + p * c = omega arith in
    let e2 : b + d + q * d ≡ b + p * d = omega arith in
    then (back (same_more (a + c + q * c) a c e1)) (then (both_plus s (both_times (same q) t)) (same_more (b + d + q * d) b d e2))

-- the same in the field
pub cancel : {a b c d : ℕ} → Same prime (a + c) (b + d) → Same prime c d → Same prime a b
cancel {a = a} {b = b} {c = c} {d = d} s t = cancel_term prime low a b c d low_is s t

-- a factor other than 0 can be left out
pub cancel_factor : (a b d : ℕ) → d < prime → d ≢ 0 → Same prime (a * d) (b * d) → Same prime a b
cancel_factor a b d h n s =
    let one : Same prime (d * inverse d) 1 = then (back (whole (d * inverse d))) (same_of _ _ (has_inverses d h n)) in
    let ea : a * d * inverse d ≡ a * (d * inverse d) = omega arith in
    let eb : b * d * inverse d ≡ b * (d * inverse d) = omega arith in
    let oa : a * 1 ≡ a = omega arith in
    let ob : b * 1 ≡ b = omega arith in
    let la : Same prime (a * d * inverse d) a = then (same_of _ _ ea) (then (both_times (same a) one) (same_of _ _ oa)) in
    let lb : Same prime (b * d * inverse d) b = then (same_of _ _ eb) (then (both_times (same b) one) (same_of _ _ ob)) in
    then (back la) (then (both_times s (same (inverse d))) lb)

-- a difference and what was taken away are the whole
pub minus_more : (a b : ℕ) → b < prime → Same prime (minus a b + b) a
minus_more a b h =
    let e : a + low * b + b ≡ a + (low + 1) * b = omega arith in
    let m : (low + 1) * b ≡ prime * b = ap (λ v. v * b) (sym low_is) in
    then (both_plus (minus_as a b h) (same b)) (same_more (a + low * b + b) a b (e ∙ ap (λ v. a + v) m))

-- the difference of two numbers that differ is not 0
pub minus_nonzero : (a b : ℕ) → a < prime → b < prime → b ≢ a → minus a b ≢ 0
minus_nonzero a b ha hb n e =
    let z : 0 + b ≡ b = omega arith in
    n (one_number b a hb ha (then (same_of _ _ (sym z)) (then (both_plus (back (same_of _ _ e)) (same b)) (minus_more a b hb))))

-- a quotient is the number whose product with the divisor is the dividend
quotient_is : (n d s : ℕ) → d < prime → d ≢ 0 → s < prime → times s d ≡ n → times n (inverse d) ≡ s
quotient_is n d s hd nd hs e =
    one_number (times n (inverse d)) s (times_below n (inverse d)) hs
    (cancel_factor (times n (inverse d)) s d hd nd
    (then (quotient_times has_inverses n d d (same d) hd nd) (then (back (same_of _ _ e)) (whole (s * d)))))

-- the sum of two points on a line of this slope, where they are not above each other
pub chord_sum : (x1 y1 x2 y2 s : ℕ) → x1 < prime → x2 < prime → s < prime → x1 ≢ x2 → times s (minus x2 x1) ≡ minus y2 y1 →
    add (at x1 y1) (at x2 y2) ≡ third s x1 y1 x2
chord_sum x1 y1 x2 y2 s h1 h2 hs n e =
    let slope : chord_slope x1 y1 x2 y2 ≡ s =
    quotient_is (minus y2 y1) (minus x2 x1) s (mod-lt (x2 + (prime - x1)) prime_pos) (minus_nonzero x2 x1 h2 h1 n) hs e in
    add_chord x1 y1 x2 y2 n ∙ ap (λ v. third v x1 y1 x2) slope

-- the double of a point on the tangent of this slope
pub tangent_sum : (x y s : ℕ) → y < prime → s < prime → y ≢ 0 → times s (times 2 y) ≡ minus (times 3 (times x x)) 3 →
    double (at x y) ≡ third s x y x
tangent_sum x y s hy hs n e =
    let slope : tangent_slope x y ≡ s =
    quotient_is (minus (times 3 (times x x)) 3) (times 2 y) s (times_below 2 y)
    (zero_factor has_inverses 2 y two_below hy (λ (z : 2 ≡ 0). absurd (omega arith)) n) hs e in
    double_sloped x y n ∙ ap (λ v. third v x y x) slope
