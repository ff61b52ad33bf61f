use Rattle.std.proofs.Common.{◌≡◌, ◌≢◌, ℕ, ◌+◌, ◌*◌, ◌<◌, refl}
use Rattle.warg_primes.proofs.Congruent.{Same, same, same_mod, back, then, both_times}
use Rattle.warg_curve.specs.Field.{prime, minus, times}
use Rattle.warg_curve.specs.Curve.{third}
use Rattle.warg_curve.proofs.CurveFacts.{low, whole, reduced, same_reduced, third_x_as, third_y_as}
use Rattle.warg_p256.specs.Coordinates.{StandsFor}

-- x3, y3, z3 stand for the third point
pub stands_third : (slope x1 y1 x2 x3 y3 z3 : ℕ) → x1 < prime → y1 < prime → x2 < prime → x3 < prime → y3 < prime → z3 ≢ 0 →
    Same prime x3 ((slope * slope + low * x1 + low * x2) * (z3 * z3)) →
    Same prime y3 ((slope * (x1 + low * (slope * slope + low * x1 + low * x2)) + low * y1) * (z3 * (z3 * z3))) →
    StandsFor x3 y3 z3 (third slope x1 y1 x2)
stands_third slope x1 y1 x2 x3 y3 z3 hx1 hy1 hx2 hx3 hy3 nz sx sy =
    let u : ℕ = minus (minus (times slope slope) x1) x2 in
    let v : ℕ = minus (times slope (minus x1 u)) y1 in
    let w : ℕ = slope * slope + low * x1 + low * x2 in
    let us : Same prime u w = third_x_as slope x1 x2 hx1 hx2 in
    let bu : u < prime = reduced u _ refl in
    let vs : Same prime v (slope * (x1 + low * w) + low * y1) = third_y_as slope x1 y1 u w bu hy1 us in
    let x3s : Same prime x3 (u * times z3 z3) = then sx (both_times (back us) (back (whole (z3 * z3)))) in
    let y3s : Same prime y3 (v * times z3 (times z3 z3)) = then sy (both_times (back vs) (back (then (whole (z3 * times z3 z3)) (both_times (same z3) (whole (z3 * z3)))))) in
    (nz, bu, reduced v _ refl, same_reduced x3 (u * times z3 z3) hx3 x3s, same_reduced y3 (v * times z3 (times z3 z3)) hy3 y3s)

-- what StandsFor says of a point that is not infinity, without remainders
pub stands_x : (X x Z : ℕ) → X ≡ times x (times Z Z) → Same prime X (x * (Z * Z))
stands_x X x Z e = then (same_mod prime X (x * times Z Z) e) (both_times (same x) (whole (Z * Z)))

pub stands_y : (Y y Z : ℕ) → Y ≡ times y (times Z (times Z Z)) → Same prime Y (y * (Z * (Z * Z)))
stands_y Y y Z e = then (same_mod prime Y (y * times Z (times Z Z)) e) (both_times (same y) (then (whole (Z * times Z Z)) (both_times (same Z) (whole (Z * Z)))))
