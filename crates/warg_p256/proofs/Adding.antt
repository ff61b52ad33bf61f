use Rattle.std.proofs.Common.{◌≡◌, ℕ, ◌+◌, ◌-◌, ◌*◌, ◌%◌, ◌<◌, arith}
use Rattle.warg_primes.proofs.Congruent.{Same, same, same_of, same_mod, back, then, both_times, both_plus, same_more, less, less_of}

-- In the lemmas q is p - 1, so that q * a is - a. (X, Y, Z) stands for x1 = X / Z ^ 2, y1 = Y / Z ^ 3, and the
-- other point is (x2, y2). h is (x2 - x1) Z ^ 2, r is (y2 - y1) Z ^ 3 and t is x2 - x1.

pub chord_h : (X Z x1 x2 q : ℕ) →
    Same (q + 1) X (x1 * (Z * Z)) →
    Same (q + 1) (x2 * (Z * Z) + q * X) ((x2 + q * x1) * (Z * Z))
chord_h X Z x1 x2 q hX =
    let e : x2 * (Z * Z) + q * (x1 * (Z * Z)) ≡ (x2 + q * x1) * (Z * Z) = omega arith in
    then (both_plus (same (x2 * (Z * Z))) (both_times (same q) hX)) (same_of _ _ e)

pub chord_r : (Y Z x1 y1 x2 y2 slope q : ℕ) →
    Same (q + 1) Y (y1 * (Z * (Z * Z))) →
    Same (q + 1) (slope * (x2 + q * x1)) (y2 + q * y1) →
    Same (q + 1) (y2 * (Z * (Z * Z)) + q * Y) (slope * (x2 + q * x1) * (Z * (Z * Z)))
chord_r Y Z x1 y1 x2 y2 slope q hY hs =
    let e : y2 * (Z * (Z * Z)) + q * (y1 * (Z * (Z * Z))) ≡ (y2 + q * y1) * (Z * (Z * Z)) = omega arith in
    then (both_plus (same (y2 * (Z * (Z * Z)))) (both_times (same q) hY)) (then (same_of _ _ e) (both_times (back hs) (same (Z * (Z * Z)))))

pub chord_x : (X Z h r x1 x2 slope q : ℕ) →
    Same (q + 1) X (x1 * (Z * Z)) →
    Same (q + 1) h ((x2 + q * x1) * (Z * Z)) →
    Same (q + 1) r (slope * (x2 + q * x1) * (Z * (Z * Z))) →
    Same (q + 1) (r * r + q * (h * (h * h)) + q * (2 * (X * (h * h)))) ((slope * slope + q * x1 + q * x2) * (Z * h * (Z * h)))
chord_x X Z h r x1 x2 slope q hX hh hr =
    let w : ℕ = x2 + q * x1 in
    let a : ℕ = w * (Z * Z) in
    let b : ℕ = slope * w * (Z * (Z * Z)) in
    let c : ℕ = x1 * (Z * Z) in
    let e : b * b + q * (a * (a * a)) + q * (2 * (c * (a * a))) ≡ (slope * slope + q * x1 + q * x2) * (Z * a * (Z * a)) + (q + 1) * (q * x1 * (w * w * (Z * Z * (Z * Z) * (Z * Z)))) = omega arith in
    let z3 = both_times (same {p = q + 1} Z) hh in
    then (both_plus (both_plus (both_times hr hr) (both_times (same q) (both_times hh (both_times hh hh)))) (both_times (same q) (both_times (same 2) (both_times hX (both_times hh hh)))))
    (then (same_more _ _ (q * x1 * (w * w * (Z * Z * (Z * Z) * (Z * Z)))) e) (both_times (same (slope * slope + q * x1 + q * x2)) (back (both_times z3 z3))))

pub chord_y : (X Y Z h r X3 x1 y1 x2 slope q : ℕ) →
    Same (q + 1) X (x1 * (Z * Z)) →
    Same (q + 1) Y (y1 * (Z * (Z * Z))) →
    Same (q + 1) h ((x2 + q * x1) * (Z * Z)) →
    Same (q + 1) r (slope * (x2 + q * x1) * (Z * (Z * Z))) →
    Same (q + 1) X3 ((slope * slope + q * x1 + q * x2) * (Z * h * (Z * h))) →
    Same (q + 1) (r * (X * (h * h) + q * X3) + q * (Y * (h * (h * h))))
    ((slope * (x1 + q * (slope * slope + q * x1 + q * x2)) + q * y1) * (Z * h * (Z * h * (Z * h))))
chord_y X Y Z h r X3 x1 y1 x2 slope q hX hY hh hr hX3 =
    let w : ℕ = x2 + q * x1 in
    let a : ℕ = w * (Z * Z) in
    let b : ℕ = slope * w * (Z * (Z * Z)) in
    let c : ℕ = x1 * (Z * Z) in
    let f : ℕ = y1 * (Z * (Z * Z)) in
    let u : ℕ = slope * slope + q * x1 + q * x2 in
    let e : b * (c * (a * a) + q * (u * (Z * a * (Z * a)))) + q * (f * (a * (a * a))) ≡ (slope * (x1 + q * u) + q * y1) * (Z * a * (Z * a * (Z * a))) = omega arith in
    let z3 = both_times (same {p = q + 1} Z) hh in
    let x3 = then hX3 (both_times (same u) (both_times z3 z3)) in
    then (both_plus (both_times hr (both_plus (both_times hX (both_times hh hh)) (both_times (same q) x3))) (both_times (same q) (both_times hY (both_times hh (both_times hh hh)))))
    (then (same_of _ _ e) (both_times (same (slope * (x1 + q * u) + q * y1)) (back (both_times z3 (both_times z3 z3)))))

-- the first steps of an addition, modulo p
pub record Heads (p X Y Z x2 y2 zz u zzz s h r : ℕ) : Type 0 where
  pub zz_is : zz ≡ (Z * Z) % p
  pub u_is : u ≡ (x2 * zz) % p
  pub zzz_is : zzz ≡ (Z * zz) % p
  pub s_is : s ≡ (y2 * zzz) % p
  pub h_is : h ≡ (u + (p - X)) % p
  pub r_is : r ≡ (s + (p - Y)) % p

-- and its last ones
pub record Tails (p X Y Z h r hh hhh v rr d vv x3 vx rvx yh y3 z3 : ℕ) : Type 0 where
  pub hh_is : hh ≡ (h * h) % p
  pub hhh_is : hhh ≡ (h * hh) % p
  pub v_is : v ≡ (X * hh) % p
  pub rr_is : rr ≡ (r * r) % p
  pub d_is : d ≡ (rr + (p - hhh)) % p
  pub vv_is : vv ≡ (v + v) % p
  pub x3_is : x3 ≡ (d + (p - vv)) % p
  pub vx_is : vx ≡ (v + (p - x3)) % p
  pub rvx_is : rvx ≡ (r * vx) % p
  pub yh_is : yh ≡ (Y * hhh) % p
  pub y3_is : y3 ≡ (rvx + (p - yh)) % p
  pub z3_is : z3 ≡ (Z * h) % p

pub head_h : (q X Y Z x2 y2 zz u zzz s h r x1 : ℕ) → Heads (q + 1) X Y Z x2 y2 zz u zzz s h r → X < q + 1 →
    Same (q + 1) X (x1 * (Z * Z)) → Same (q + 1) h ((x2 + q * x1) * (Z * Z))
head_h q X Y Z x2 y2 zz u zzz s h r x1 k bX hX =
    let p : ℕ = q + 1 in
    let zz' : Same p zz (Z * Z) = same_mod p zz (Z * Z) k.zz_is in
    let u' : Same p u (x2 * (Z * Z)) = then (same_mod p u (x2 * zz) k.u_is) (both_times (same x2) zz') in
    then (less_of q h u X k.h_is bX) (then (both_plus u' (same (q * X))) (chord_h X Z x1 x2 q hX))

pub head_r : (q X Y Z x2 y2 zz u zzz s h r y1 : ℕ) → Heads (q + 1) X Y Z x2 y2 zz u zzz s h r → Y < q + 1 →
    Same (q + 1) Y (y1 * (Z * (Z * Z))) → Same (q + 1) r ((y2 + q * y1) * (Z * (Z * Z)))
head_r q X Y Z x2 y2 zz u zzz s h r y1 k bY hY =
    let p : ℕ = q + 1 in
    let zz' : Same p zz (Z * Z) = same_mod p zz (Z * Z) k.zz_is in
    let zzz' : Same p zzz (Z * (Z * Z)) = then (same_mod p zzz (Z * zz) k.zzz_is) (both_times (same Z) zz') in
    let s' : Same p s (y2 * (Z * (Z * Z))) = then (same_mod p s (y2 * zzz) k.s_is) (both_times (same y2) zzz') in
    let e : y2 * (Z * (Z * Z)) + q * (y1 * (Z * (Z * Z))) ≡ (y2 + q * y1) * (Z * (Z * Z)) = omega arith in
    then (less_of q r s Y k.r_is bY) (then (both_plus s' (both_times (same q) hY)) (same_of _ _ e))

pub added : (q X Y Z x2 h r hh hhh v rr d vv x3 vx rvx yh y3 z3 x1 y1 slope : ℕ) →
    Tails (q + 1) X Y Z h r hh hhh v rr d vv x3 vx rvx yh y3 z3 →
    Same (q + 1) X (x1 * (Z * Z)) →
    Same (q + 1) Y (y1 * (Z * (Z * Z))) →
    Same (q + 1) h ((x2 + q * x1) * (Z * Z)) →
    Same (q + 1) r (slope * (x2 + q * x1) * (Z * (Z * Z))) →
    Same (q + 1) x3 ((slope * slope + q * x1 + q * x2) * (z3 * z3))
    × Same (q + 1) y3 ((slope * (x1 + q * (slope * slope + q * x1 + q * x2)) + q * y1) * (z3 * (z3 * z3)))
added q X Y Z x2 h r hh hhh v rr d vv x3 vx rvx yh y3 z3 x1 y1 slope k hX hY hh0 hr =
    let p : ℕ = q + 1 in
    let hh' : Same p hh (h * h) = same_mod p hh (h * h) k.hh_is in
    let hhh' : Same p hhh (h * (h * h)) = then (same_mod p hhh (h * hh) k.hhh_is) (both_times (same h) hh') in
    let v' : Same p v (X * (h * h)) = then (same_mod p v (X * hh) k.v_is) (both_times (same X) hh') in
    let rr' : Same p rr (r * r) = same_mod p rr (r * r) k.rr_is in
    let d' : Same p d (r * r + q * (h * (h * h))) = then (less q d rr hhh (h * hh) k.d_is k.hhh_is) (both_plus rr' (both_times (same q) hhh')) in
    let e2 : X * (h * h) + X * (h * h) ≡ 2 * (X * (h * h)) = omega arith in
    let vv' : Same p vv (2 * (X * (h * h))) = then (same_mod p vv (v + v) k.vv_is) (then (both_plus v' v') (same_of _ _ e2)) in
    let x3' : Same p x3 (r * r + q * (h * (h * h)) + q * (2 * (X * (h * h)))) = then (less q x3 d vv (v + v) k.x3_is k.vv_is) (both_plus d' (both_times (same q) vv')) in
    let x3'' = then x3' (chord_x X Z h r x1 x2 slope q hX hh0 hr) in
    let vx' : Same p vx (X * (h * h) + q * x3) = then (less q vx v x3 (d + (p - vv)) k.vx_is k.x3_is) (both_plus v' (same (q * x3))) in
    let rvx' : Same p rvx (r * (X * (h * h) + q * x3)) = then (same_mod p rvx (r * vx) k.rvx_is) (both_times (same r) vx') in
    let yh' : Same p yh (Y * (h * (h * h))) = then (same_mod p yh (Y * hhh) k.yh_is) (both_times (same Y) hhh') in
    let y3' : Same p y3 (r * (X * (h * h) + q * x3) + q * (Y * (h * (h * h)))) = then (less q y3 rvx yh (Y * hhh) k.y3_is k.yh_is) (both_plus rvx' (both_times (same q) yh')) in
    let y3'' = then y3' (chord_y X Y Z h r x3 x1 y1 x2 slope q hX hY hh0 hr x3'') in
    let z3' : Same p z3 (Z * h) = same_mod p z3 (Z * h) k.z3_is in (
      then x3'' (both_times (same (slope * slope + q * x1 + q * x2)) (back (both_times z3' z3'))),
      then y3'' (both_times (same (slope * (x1 + q * (slope * slope + q * x1 + q * x2)) + q * y1)) (back (both_times z3' (both_times z3' z3')))),
    )
