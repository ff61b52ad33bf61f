use Rattle.std.proofs.Common.{◌≡◌, ◌≢◌, ℕ, ◌+◌, ◌-◌, ◌*◌, ◌%◌, ◌<◌, inl, inr, ap, sym, ◌∙◌, refl, subst, lit<, Bool, true, false, arith}
use Rattle.std.proofs.lemmas.Bool.{cases_eq}
use Rattle.std.proofs.Math.Nat.{mod-eq_of_lt, zero-mul, mul-one}
use Rattle.warg_primes.proofs.Congruent.{Same, same, same_of, same_mod, back, then, both_times, both_plus, same_more, minus_is}
use Rattle.warg_p256.proofs.Adding.{Heads, Tails, head_h, head_r, added}
use Rattle.warg_curve.specs.Field.{prime, minus, times}
use Rattle.warg_curve.specs.Curve.{Point, infinity, at, chord_slope, double, add}
use Rattle.warg_p256.specs.Coordinates.{StandsFor}
use Rattle.warg_curve.proofs.CurveFacts.{HasInverses, low, prime_pos, whole, reduced, minus_as, times_below, low_is, add_right, one_number, zero_factor, quotient_times, add_infinity, add_chord, add_mirrored, add_same}
use Rattle.warg_p256.proofs.Standing.{stands_third, stands_x, stands_y}

-- `head_h`, `head_r` and `added` at the prime
head_h_prime : (X Y Z x2 y2 zz u zzz s h r x1 : ℕ) → Heads prime X Y Z x2 y2 zz u zzz s h r → X < prime →
    Same prime X (x1 * (Z * Z)) → Same prime h ((x2 + low * x1) * (Z * Z))
unfolding prime
head_h_prime = head_h low

head_r_prime : (X Y Z x2 y2 zz u zzz s h r y1 : ℕ) → Heads prime X Y Z x2 y2 zz u zzz s h r → Y < prime →
    Same prime Y (y1 * (Z * (Z * Z))) → Same prime r ((y2 + low * y1) * (Z * (Z * Z)))
unfolding prime
head_r_prime = head_r low

added_prime : (X Y Z x2 h r hh hhh v rr d vv x3 vx rvx yh y3 z3 x1 y1 slope : ℕ) →
    Tails prime X Y Z h r hh hhh v rr d vv x3 vx rvx yh y3 z3 →
    Same prime X (x1 * (Z * Z)) →
    Same prime Y (y1 * (Z * (Z * Z))) →
    Same prime h ((x2 + low * x1) * (Z * Z)) →
    Same prime r (slope * (x2 + low * x1) * (Z * (Z * Z))) →
    Same prime x3 ((slope * slope + low * x1 + low * x2) * (z3 * z3))
    × Same prime y3 ((slope * (x1 + low * (slope * slope + low * x1 + low * x2)) + low * y1) * (z3 * (z3 * z3)))
unfolding prime
added_prime = added low

same_multiple : (a b : ℕ) → Same prime (a + low * b + b) a
unfolding prime
same_multiple a b = let e : a + low * b + b ≡ a + (low + 1) * b = omega arith in same_more _ _ b e

multiple_zero : (d k : ℕ) → d ≡ 0 + (low + 1) * k → Same prime d 0
unfolding prime
multiple_zero d k e = same_more _ _ k e

-- (a - b) w is 0 only where a is b, for a w that is not 0
same_factor : HasInverses → (a b w d : ℕ) → a < prime → b < prime → w < prime → w ≢ 0 → d ≡ 0 → Same prime d ((a + low * b) * w) → b ≡ a
same_factor inv a b w d ha hb hw nw e s =
    let m : ℕ = minus a b in
    let ms : Same prime m (a + low * b) = minus_as a b hb in
    let bm : m < prime = reduced m _ refl in
    let product : Same prime (times m w) d = then (whole (m * w)) (then (both_times ms (same w)) (back s)) in
    let none : times m w ≡ 0 = one_number (times m w) 0 (times_below m w) prime_pos (then product (same_of _ _ e)) in
    elim (cases_eq m 0) [
      | inl z ↦
          let more : Same prime (a + low * b + b) a = same_multiple a b in
          let e0 : 0 + b ≡ b = omega arith in
          one_number b a hb ha (then (same_of _ _ (sym e0)) (then (both_plus (then (back (same_of _ _ z)) ms) (same b)) more))
      | inr n ↦ absurd (zero_factor inv m w bm hw n nw none)
    ]

-- and it is 0 where they are one
other_factor : (a b w d : ℕ) → d < prime → Same prime d ((a + low * b) * w) → d ≢ 0 → b ≢ a
other_factor a b w d hd s n e =
    let e1 : (a + low * a) * w ≡ 0 + (low + 1) * (a * w) = omega arith in
    let s1 : Same prime ((a + low * b) * w) ((a + low * a) * w) = both_times (both_plus (same a) (both_times (same low) (same_of _ _ e))) (same w) in
    n (one_number d 0 hd prime_pos (then s (then s1 (multiple_zero _ (a * w) e1))))

square_not : (Z : ℕ) → HasInverses → Z < prime → Z ≢ 0 → times Z Z ≢ 0
square_not Z inv hz nz = zero_factor inv Z Z hz hz nz nz

cube_not : (Z : ℕ) → HasInverses → Z < prime → Z ≢ 0 → times Z (times Z Z) ≢ 0
cube_not Z inv hz nz = zero_factor inv Z (times Z Z) hz (times_below Z Z) nz (square_not Z inv hz nz)

head_h_of : (X Y Z x2 y2 zz u zzz s h r : ℕ) → Heads prime X Y Z x2 y2 zz u zzz s h r → (x1 y1 : ℕ) → StandsFor X Y Z (at x1 y1) → Same prime h ((x2 + low * x1) * times Z Z)
head_h_of X Y Z x2 y2 zz u zzz s h r k x1 y1 st =
    then (head_h_prime X Y Z x2 y2 zz u zzz s h r x1 k (reduced X _ st.3) (stands_x X x1 Z st.3)) (both_times (same (x2 + low * x1)) (back (whole (Z * Z))))

head_r_of : (X Y Z x2 y2 zz u zzz s h r : ℕ) → Heads prime X Y Z x2 y2 zz u zzz s h r → (x1 y1 : ℕ) → StandsFor X Y Z (at x1 y1) → Same prime r ((y2 + low * y1) * times Z (times Z Z))
head_r_of X Y Z x2 y2 zz u zzz s h r k x1 y1 st =
    then (head_r_prime X Y Z x2 y2 zz u zzz s h r y1 k (reduced Y _ st.4) (stands_y Y y1 Z st.4)) (both_times (same (y2 + low * y1)) (back (then (whole (Z * times Z Z)) (both_times (same Z) (whole (Z * Z))))))

same_x : (X Y Z x2 y2 zz u zzz s h r : ℕ) → Heads prime X Y Z x2 y2 zz u zzz s h r → HasInverses → x2 < prime → Z < prime → h ≡ 0 → (x1 y1 : ℕ) → StandsFor X Y Z (at x1 y1) → x1 ≡ x2
same_x X Y Z x2 y2 zz u zzz s h r k inv hx hz eh x1 y1 st =
    same_factor inv x2 x1 (times Z Z) h hx st.1 (times_below Z Z) (square_not Z inv hz st.0) eh (head_h_of X Y Z x2 y2 zz u zzz s h r k x1 y1 st)

-- a point with z 0 is infinity
pub added_to_infinity : (X Y Z x y z : ℕ) → Z ≡ 0 → (a b : Point) → StandsFor X Y Z a → StandsFor x y z b → StandsFor x y z (add a b)
added_to_infinity X Y Z x y z e infinity b st sb = subst (λ (r : Point). StandsFor x y z r) (sym (add_infinity b)) sb
added_to_infinity X Y Z x y z e (at u v) b st sb = absurd (st.0 e)

-- the same point
pub added_same : (X Y Z x2 y2 zz u zzz s h r : ℕ) → Heads prime X Y Z x2 y2 zz u zzz s h r → HasInverses → x2 < prime → y2 < prime → Z < prime →
    Z ≢ 0 → h ≡ 0 → r ≡ 0 → (a : Point) → StandsFor X Y Z a → (x y z : ℕ) → StandsFor x y z (double a) → StandsFor x y z (add a (at x2 y2))
added_same X Y Z x2 y2 zz u zzz s h r k inv hx hy hz nz eh er infinity st x y z sb = absurd (nz st)
added_same X Y Z x2 y2 zz u zzz s h r k inv hx hy hz nz eh er (at x1 y1) st x y z sb =
    let ex : x1 ≡ x2 = same_x X Y Z x2 y2 zz u zzz s h r k inv hx hz eh x1 y1 st in
    let ey : y1 ≡ y2 = same_factor inv y2 y1 (times Z (times Z Z)) r hy st.2 (times_below Z (times Z Z)) (cube_not Z inv hz nz) er (head_r_of X Y Z x2 y2 zz u zzz s h r k x1 y1 st) in
    subst (λ (p : Point). StandsFor x y z p) (sym (add_same x1 y1 x2 y2 ex ey)) sb

-- the mirrored point
pub added_mirrored : (X Y Z x2 y2 zz u zzz s h r : ℕ) → Heads prime X Y Z x2 y2 zz u zzz s h r → HasInverses → x2 < prime → Z < prime →
    Z ≢ 0 → h ≡ 0 → r ≢ 0 → (a : Point) → StandsFor X Y Z a → (x y z : ℕ) → z ≡ 0 → StandsFor x y z (add a (at x2 y2))
added_mirrored X Y Z x2 y2 zz u zzz s h r k inv hx hz nz eh nr infinity st x y z ez = absurd (nz st)
added_mirrored X Y Z x2 y2 zz u zzz s h r k inv hx hz nz eh nr (at x1 y1) st x y z ez =
    let ex : x1 ≡ x2 = same_x X Y Z x2 y2 zz u zzz s h r k inv hx hz eh x1 y1 st in
    let ny : y1 ≢ y2 = other_factor y2 y1 (times Z (times Z Z)) r (reduced r _ k.r_is) (head_r_of X Y Z x2 y2 zz u zzz s h r k x1 y1 st) nr in
    subst (λ (p : Point). StandsFor x y z p) (sym (add_mirrored x1 y1 x2 y2 ex ny)) ez

-- two points with different x
pub added_chord : (X Y Z x2 y2 zz u zzz s h r hh hhh v rr d vv x3 vx rvx yh y3 z3 : ℕ) →
    Heads prime X Y Z x2 y2 zz u zzz s h r → Tails prime X Y Z h r hh hhh v rr d vv x3 vx rvx yh y3 z3 → HasInverses → x2 < prime → y2 < prime → Z < prime →
    Z ≢ 0 → h ≢ 0 → (a : Point) → StandsFor X Y Z a → StandsFor x3 y3 z3 (add a (at x2 y2))
added_chord X Y Z x2 y2 zz u zzz s h r hh hhh v rr d vv x3 vx rvx yh y3 z3 k t inv hx hy hz nz nh infinity st = absurd (nz st)
added_chord X Y Z x2 y2 zz u zzz s h r hh hhh v rr d vv x3 vx rvx yh y3 z3 k t inv hx hy hz nz nh (at x1 y1) st =
    let slope : ℕ = chord_slope x1 y1 x2 y2 in
    let sh = head_h_of X Y Z x2 y2 zz u zzz s h r k x1 y1 st in
    let bh : h < prime = reduced h _ k.h_is in
    let nx : x1 ≢ x2 = other_factor x2 x1 (times Z Z) h bh sh nh in
    let m : ℕ = minus x2 x1 in
    let ms : Same prime m (x2 + low * x1) = minus_as x2 x1 st.1 in
    let bm : m < prime = reduced m _ refl in
    let nm : m ≢ 0 = λ (e : m ≡ 0). nh (one_number h 0 bh prime_pos (then sh (then (both_times (back ms) (same (times Z Z))) (then (both_times (same_of _ _ e) (same (times Z Z))) (same_of _ _ (zero-mul (times Z Z))))))) in
    let sl : Same prime (slope * (x2 + low * x1)) (y2 + low * y1) = then (quotient_times inv (minus y2 y1) m (x2 + low * x1) ms bm nm) (minus_as y2 y1 st.2) in
    let sX = stands_x X x1 Z st.3 in
    let sY = stands_y Y y1 Z st.4 in
    let sh' : Same prime h ((x2 + low * x1) * (Z * Z)) = head_h_prime X Y Z x2 y2 zz u zzz s h r x1 k (reduced X _ st.3) sX in
    let sr : Same prime r (slope * (x2 + low * x1) * (Z * (Z * Z))) = then (head_r_prime X Y Z x2 y2 zz u zzz s h r y1 k (reduced Y _ st.4) sY) (both_times (back sl) (same (Z * (Z * Z)))) in
    let both = added_prime X Y Z x2 h r hh hhh v rr d vv x3 vx rvx yh y3 z3 x1 y1 slope t sX sY sh' sr in
    let nz3 : z3 ≢ 0 = λ (e : z3 ≡ 0). zero_factor inv Z h hz bh nz nh (sym t.z3_is ∙ e) in
    subst (λ (p : Point). StandsFor x3 y3 z3 p) (sym (add_chord x1 y1 x2 y2 nx))
    (stands_third slope x1 y1 x2 x3 y3 z3 st.1 st.2 hx (reduced x3 _ t.x3_is) (reduced y3 _ t.y3_is) nz3 both.0 both.1)

times_one : (a z : ℕ) → a < prime → z ≡ 1 → times a z ≡ a
times_one a z h e = ap (λ v. (a * v) % prime) e ∙ ap (λ v. v % prime) (mul-one a) ∙ mod-eq_of_lt h

one_below : 1 < prime
unfolding prime
one_below = lit< tt

-- with z 1 the coordinates are the point's own
pub stands_affine : (x y z : ℕ) → x < prime → y < prime → z ≡ 1 → StandsFor x y z (at x y)
stands_affine x y z hx hy e =
    let zz : times z z ≡ 1 = ap (λ v. times v z) e ∙ times_one 1 z one_below e in
    let zzz : times z (times z z) ≡ 1 = ap (λ v. times z v) zz ∙ times_one z 1 (subst (λ v. v < prime) (sym e) one_below) refl ∙ e in
    let nz : z ≢ 0 = omega arith in
    (nz, hx, hy, sym (times_one x (times z z) hx zz), sym (times_one y (times z (times z z)) hy zzz))

pub not_zero : (b : Bool) (n : ℕ) → ((b ≡ true → n ≡ 0) × (n ≡ 0 → b ≡ true)) → b ≡ false → n ≢ 0
not_zero b n h f e = let g : b ≡ true = h.1 e in cc

-- the other point in coordinates of its own: (X2, Y2, V)
pub record Crossed (p X Y Z X2 Y2 V zz vv t u vvv w zzz s h r : ℕ) : Type 0 where
  pub zz_is : zz ≡ (Z * Z) % p
  pub vv_is : vv ≡ (V * V) % p
  pub t_is : t ≡ (X * vv) % p
  pub u_is : u ≡ (X2 * zz) % p
  pub vvv_is : vvv ≡ (V * vv) % p
  pub w_is : w ≡ (Y * vvv) % p
  pub zzz_is : zzz ≡ (Z * zz) % p
  pub s_is : s ≡ (Y2 * zzz) % p
  pub h_is : h ≡ (u + (p - t)) % p
  pub r_is : r ≡ (s + (p - w)) % p

-- over a common z, Z * V
crossed_x : (X Z V vv t x : ℕ) → vv ≡ (V * V) % prime → t ≡ (X * vv) % prime → Same prime X (x * (Z * Z)) → Same prime t (x * (Z * V * (Z * V)))
crossed_x X Z V vv t x e f s =
    let o : x * (Z * Z) * (V * V) ≡ x * (Z * V * (Z * V)) = omega arith in
    then (same_mod prime t (X * vv) f) (then (both_times s (same_mod prime vv (V * V) e)) (same_of _ _ o))

crossed_y : (Y Z V vv vvv w y : ℕ) → vv ≡ (V * V) % prime → vvv ≡ (V * vv) % prime → w ≡ (Y * vvv) % prime → Same prime Y (y * (Z * (Z * Z))) → Same prime w (y * (Z * V * (Z * V * (Z * V))))
crossed_y Y Z V vv vvv w y e f g s =
    let o : y * (Z * (Z * Z)) * (V * (V * V)) ≡ y * (Z * V * (Z * V * (Z * V))) = omega arith in
    then (same_mod prime w (Y * vvv) g) (then (both_times s (then (same_mod prime vvv (V * vv) f) (both_times (same V) (same_mod prime vv (V * V) e)))) (same_of _ _ o))

swapped_x : (Z V x : ℕ) → Same prime (x * (V * Z * (V * Z))) (x * (Z * V * (Z * V)))
swapped_x Z V x = let e : x * (V * Z * (V * Z)) ≡ x * (Z * V * (Z * V)) = omega arith in same_of _ _ e

swapped_y : (Z V y : ℕ) → Same prime (y * (V * Z * (V * Z * (V * Z)))) (y * (Z * V * (Z * V * (Z * V))))
swapped_y Z V y = let e : y * (V * Z * (V * Z * (V * Z))) ≡ y * (Z * V * (Z * V * (Z * V))) = omega arith in same_of _ _ e

-- h and r over the common z
crossed_h : (X Y Z X2 Y2 V zz vv t u vvv w zzz s h r : ℕ) → Crossed prime X Y Z X2 Y2 V zz vv t u vvv w zzz s h r → (x1 x2 : ℕ) →
    Same prime X (x1 * (Z * Z)) → Same prime X2 (x2 * (V * V)) → Same prime h ((x2 + low * x1) * (Z * V * (Z * V)))
crossed_h X Y Z X2 Y2 V zz vv t u vvv w zzz s h r k x1 x2 s1 s2 =
    let c : ℕ = Z * V * (Z * V) in
    let e : x2 * c + low * (x1 * c) ≡ (x2 + low * x1) * c = omega arith in
    let us : Same prime u (x2 * c) = then (crossed_x X2 V Z zz u x2 k.zz_is k.u_is s2) (swapped_x Z V x2) in
    let ts : Same prime t (x1 * c) = crossed_x X Z V vv t x1 k.vv_is k.t_is s1 in
    then (same_mod prime h (u + (prime - t)) k.h_is) (then (minus_is prime low u t low_is (reduced t _ k.t_is)) (then (both_plus us (both_times (same low) ts)) (same_of _ _ e)))

crossed_r : (X Y Z X2 Y2 V zz vv t u vvv w zzz s h r : ℕ) → Crossed prime X Y Z X2 Y2 V zz vv t u vvv w zzz s h r → (y1 y2 : ℕ) →
    Same prime Y (y1 * (Z * (Z * Z))) → Same prime Y2 (y2 * (V * (V * V))) → Same prime r ((y2 + low * y1) * (Z * V * (Z * V * (Z * V))))
crossed_r X Y Z X2 Y2 V zz vv t u vvv w zzz s h r k y1 y2 s1 s2 =
    let c : ℕ = Z * V * (Z * V * (Z * V)) in
    let e : y2 * c + low * (y1 * c) ≡ (y2 + low * y1) * c = omega arith in
    let ss : Same prime s (y2 * c) = then (crossed_y Y2 V Z zz zzz s y2 k.zz_is k.zzz_is k.s_is s2) (swapped_y Z V y2) in
    let ws : Same prime w (y1 * c) = crossed_y Y Z V vv vvv w y1 k.vv_is k.vvv_is k.w_is s1 in
    then (same_mod prime r (s + (prime - w)) k.r_is) (then (minus_is prime low s w low_is (reduced w _ k.w_is)) (then (both_plus ss (both_times (same low) ws)) (same_of _ _ e)))

-- the square and the cube of the common z, reduced
common_square : (Z V : ℕ) → Same prime (Z * V * (Z * V)) (times (times Z V) (times Z V))
common_square Z V = back (then (whole (times Z V * times Z V)) (both_times (whole (Z * V)) (whole (Z * V))))

common_cube : (Z V : ℕ) → Same prime (Z * V * (Z * V * (Z * V))) (times (times Z V) (times (times Z V) (times Z V)))
common_cube Z V = back (then (whole (times Z V * times (times Z V) (times Z V))) (both_times (whole (Z * V)) (back (common_square Z V))))

pub crossed_none_left : (X Y Z X2 Y2 V : ℕ) → Z ≡ 0 → (a b : Point) → StandsFor X Y Z a → StandsFor X2 Y2 V b → StandsFor X2 Y2 V (add a b)
crossed_none_left X Y Z X2 Y2 V e a b sa sb = added_to_infinity X Y Z X2 Y2 V e a b sa sb

pub crossed_none_right : (X Y Z X2 Y2 V : ℕ) → V ≡ 0 → (a b : Point) → StandsFor X Y Z a → StandsFor X2 Y2 V b → StandsFor X Y Z (add a b)
crossed_none_right X Y Z X2 Y2 V e a infinity sa sb = subst (λ (r : Point). StandsFor X Y Z r) (sym (add_right a)) sa
crossed_none_right X Y Z X2 Y2 V e a (at x y) sa sb = absurd (sb.0 e)

pub crossed_same : (X Y Z X2 Y2 V zz vv t u vvv w zzz s h r : ℕ) → Crossed prime X Y Z X2 Y2 V zz vv t u vvv w zzz s h r → HasInverses → Z < prime → V < prime →
    Z ≢ 0 → V ≢ 0 → h ≡ 0 → r ≡ 0 → (a b : Point) → StandsFor X Y Z a → StandsFor X2 Y2 V b → (x y z : ℕ) → StandsFor x y z (double a) → StandsFor x y z (add a b)
crossed_same X Y Z X2 Y2 V zz vv t u vvv w zzz s h r k inv hz hv nz nv eh er infinity b sa sb x y z d = absurd (nz sa)
crossed_same X Y Z X2 Y2 V zz vv t u vvv w zzz s h r k inv hz hv nz nv eh er (at x1 y1) infinity sa sb x y z d = absurd (nv sb)
crossed_same X Y Z X2 Y2 V zz vv t u vvv w zzz s h r k inv hz hv nz nv eh er (at x1 y1) (at x2 y2) sa sb x y z d =
    let c : ℕ = times Z V in
    let nc : c ≢ 0 = zero_factor inv Z V hz hv nz nv in
    let sh = then (crossed_h X Y Z X2 Y2 V zz vv t u vvv w zzz s h r k x1 x2 (stands_x X x1 Z sa.3) (stands_x X2 x2 V sb.3)) (both_times (same (x2 + low * x1)) (common_square Z V)) in
    let sr = then (crossed_r X Y Z X2 Y2 V zz vv t u vvv w zzz s h r k y1 y2 (stands_y Y y1 Z sa.4) (stands_y Y2 y2 V sb.4)) (both_times (same (y2 + low * y1)) (common_cube Z V)) in
    let ex : x1 ≡ x2 = same_factor inv x2 x1 (times c c) h sb.1 sa.1 (times_below c c) (square_not c inv (times_below Z V) nc) eh sh in
    let ey : y1 ≡ y2 = same_factor inv y2 y1 (times c (times c c)) r sb.2 sa.2 (times_below c (times c c)) (cube_not c inv (times_below Z V) nc) er sr in
    subst (λ (p : Point). StandsFor x y z p) (sym (add_same x1 y1 x2 y2 ex ey)) d

pub crossed_mirrored : (X Y Z X2 Y2 V zz vv t u vvv w zzz s h r : ℕ) → Crossed prime X Y Z X2 Y2 V zz vv t u vvv w zzz s h r → HasInverses → Z < prime → V < prime →
    Z ≢ 0 → V ≢ 0 → h ≡ 0 → r ≢ 0 → (a b : Point) → StandsFor X Y Z a → StandsFor X2 Y2 V b → (x y z : ℕ) → z ≡ 0 → StandsFor x y z (add a b)
crossed_mirrored X Y Z X2 Y2 V zz vv t u vvv w zzz s h r k inv hz hv nz nv eh nr infinity b sa sb x y z d = absurd (nz sa)
crossed_mirrored X Y Z X2 Y2 V zz vv t u vvv w zzz s h r k inv hz hv nz nv eh nr (at x1 y1) infinity sa sb x y z d = absurd (nv sb)
crossed_mirrored X Y Z X2 Y2 V zz vv t u vvv w zzz s h r k inv hz hv nz nv eh nr (at x1 y1) (at x2 y2) sa sb x y z d =
    let c : ℕ = times Z V in
    let nc : c ≢ 0 = zero_factor inv Z V hz hv nz nv in
    let sh = then (crossed_h X Y Z X2 Y2 V zz vv t u vvv w zzz s h r k x1 x2 (stands_x X x1 Z sa.3) (stands_x X2 x2 V sb.3)) (both_times (same (x2 + low * x1)) (common_square Z V)) in
    let sr = then (crossed_r X Y Z X2 Y2 V zz vv t u vvv w zzz s h r k y1 y2 (stands_y Y y1 Z sa.4) (stands_y Y2 y2 V sb.4)) (both_times (same (y2 + low * y1)) (common_cube Z V)) in
    let ex : x1 ≡ x2 = same_factor inv x2 x1 (times c c) h sb.1 sa.1 (times_below c c) (square_not c inv (times_below Z V) nc) eh sh in
    let ny : y1 ≢ y2 = other_factor y2 y1 (times c (times c c)) r (reduced r _ k.r_is) sr nr in
    subst (λ (p : Point). StandsFor x y z p) (sym (add_mirrored x1 y1 x2 y2 ex ny)) d

pub crossed_chord : (X Y Z X2 Y2 V zz vv t u vvv w zzz s h r c hh hhh v rr d ww x3 vx rvx yh y3 z3 : ℕ) →
    Crossed prime X Y Z X2 Y2 V zz vv t u vvv w zzz s h r → c ≡ (Z * V) % prime → Tails prime t w c h r hh hhh v rr d ww x3 vx rvx yh y3 z3 → HasInverses → Z < prime → V < prime →
    Z ≢ 0 → V ≢ 0 → h ≢ 0 → (a b : Point) → StandsFor X Y Z a → StandsFor X2 Y2 V b → StandsFor x3 y3 z3 (add a b)
crossed_chord X Y Z X2 Y2 V zz vv t u vvv w zzz s h r c hh hhh v rr d ww x3 vx rvx yh y3 z3 k ec tl inv hz hv nz nv nh infinity b sa sb = absurd (nz sa)
crossed_chord X Y Z X2 Y2 V zz vv t u vvv w zzz s h r c hh hhh v rr d ww x3 vx rvx yh y3 z3 k ec tl inv hz hv nz nv nh (at x1 y1) infinity sa sb = absurd (nv sb)
crossed_chord X Y Z X2 Y2 V zz vv t u vvv w zzz s h r c hh hhh v rr d ww x3 vx rvx yh y3 z3 k ec tl inv hz hv nz nv nh (at x1 y1) (at x2 y2) sa sb =
    let slope : ℕ = chord_slope x1 y1 x2 y2 in
    let cs : Same prime (Z * V) c = back (same_mod prime c (Z * V) ec) in
    let nc : c ≢ 0 = λ (e : c ≡ 0). zero_factor inv Z V hz hv nz nv (sym ec ∙ e) in
    let bc : c < prime = reduced c _ ec in
    let sX1 = stands_x X x1 Z sa.3 in
    let sY1 = stands_y Y y1 Z sa.4 in
    let sh : Same prime h ((x2 + low * x1) * (c * c)) = then (crossed_h X Y Z X2 Y2 V zz vv t u vvv w zzz s h r k x1 x2 sX1 (stands_x X2 x2 V sb.3)) (both_times (same (x2 + low * x1)) (both_times cs cs)) in
    let sr0 : Same prime r ((y2 + low * y1) * (c * (c * c))) = then (crossed_r X Y Z X2 Y2 V zz vv t u vvv w zzz s h r k y1 y2 sY1 (stands_y Y2 y2 V sb.4)) (both_times (same (y2 + low * y1)) (both_times cs (both_times cs cs))) in
    let sT : Same prime t (x1 * (c * c)) = then (crossed_x X Z V vv t x1 k.vv_is k.t_is sX1) (both_times (same x1) (both_times cs cs)) in
    let sW : Same prime w (y1 * (c * (c * c))) = then (crossed_y Y Z V vv vvv w y1 k.vv_is k.vvv_is k.w_is sY1) (both_times (same y1) (both_times cs (both_times cs cs))) in
    let bh : h < prime = reduced h _ k.h_is in
    let sh' : Same prime h ((x2 + low * x1) * times c c) = then sh (both_times (same (x2 + low * x1)) (back (whole (c * c)))) in
    let nx : x1 ≢ x2 = other_factor x2 x1 (times c c) h bh sh' nh in
    let m : ℕ = minus x2 x1 in
    let ms : Same prime m (x2 + low * x1) = minus_as x2 x1 sa.1 in
    let bm : m < prime = reduced m _ refl in
    let nm : m ≢ 0 = λ (e : m ≡ 0). nh (one_number h 0 bh prime_pos (then sh' (then (both_times (back ms) (same (times c c))) (then (both_times (same_of _ _ e) (same (times c c))) (same_of _ _ (zero-mul (times c c))))))) in
    let sl : Same prime (slope * (x2 + low * x1)) (y2 + low * y1) = then (quotient_times inv (minus y2 y1) m (x2 + low * x1) ms bm nm) (minus_as y2 y1 sa.2) in
    let sr : Same prime r (slope * (x2 + low * x1) * (c * (c * c))) = then sr0 (both_times (back sl) (same (c * (c * c)))) in
    let both = added_prime t w c x2 h r hh hhh v rr d ww x3 vx rvx yh y3 z3 x1 y1 slope tl sT sW sh sr in
    let nz3 : z3 ≢ 0 = λ (e : z3 ≡ 0). zero_factor inv c h bc bh nc nh (sym tl.z3_is ∙ e) in
    subst (λ (p : Point). StandsFor x3 y3 z3 p) (sym (add_chord x1 y1 x2 y2 nx))
    (stands_third slope x1 y1 x2 x3 y3 z3 sa.1 sa.2 sb.1 (reduced x3 _ tl.x3_is) (reduced y3 _ tl.y3_is) nz3 both.0 both.1)
