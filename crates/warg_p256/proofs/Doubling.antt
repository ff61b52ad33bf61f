use Rattle.std.proofs.Common.{◌≡◌, ℕ, ◌+◌, ◌*◌, arith}
use Rattle.warg_primes.proofs.Congruent.{Same, same, same_of, back, then, both_times, both_plus, same_more}

-- In the lemmas q is p - 1, so that q * a is - a. (X, Y, Z) stands for x = X / Z ^ 2, y = Y / Z ^ 3.

-- 3 (X - Z ^ 2) (X + Z ^ 2) is slope * 2 y * Z ^ 4
pub tangent : (X Z x y slope q : ℕ) →
    Same (q + 1) X (x * (Z * Z)) →
    Same (q + 1) (slope * (2 * y)) (3 * (x * x) + q * 3) →
    Same (q + 1) (3 * ((X + q * (Z * Z)) * (X + Z * Z))) (slope * (2 * y) * (Z * Z * (Z * Z)))
tangent X Z x y slope q hX hs =
    let zz : ℕ = Z * Z in
    let e : 3 * ((x * zz + q * zz) * (x * zz + zz)) ≡ (3 * (x * x) + q * 3) * (zz * zz) + (q + 1) * (3 * x * (zz * zz)) = omega arith in
    then (both_times (same 3) (both_times (both_plus hX (same (q * zz))) (both_plus hX (same zz))))
    (then (same_more _ _ (3 * x * (zz * zz)) e) (both_times (back hs) (same (zz * zz))))

-- the x of the double
pub doubled_x : (X Y Z M x y slope q : ℕ) →
    Same (q + 1) X (x * (Z * Z)) →
    Same (q + 1) Y (y * (Z * (Z * Z))) →
    Same (q + 1) M (slope * (2 * y) * (Z * Z * (Z * Z))) →
    Same (q + 1) (M * M + q * (8 * (X * (Y * Y)))) ((slope * slope + q * x + q * x) * (2 * (Y * Z) * (2 * (Y * Z))))
doubled_x X Y Z M x y slope q hX hY hM =
    let l : ℕ = slope * (2 * y) * (Z * Z * (Z * Z)) in
    let v : ℕ = y * (Z * (Z * Z)) in
    let u : ℕ = x * (Z * Z) in
    let e : l * l + q * (8 * (u * (v * v))) ≡ (slope * slope + q * x + q * x) * (2 * (v * Z) * (2 * (v * Z))) = omega arith in
    let z3 = both_times (same {p = q + 1} 2) (both_times hY (same Z)) in
    then (both_plus (both_times hM hM) (both_times (same q) (both_times (same 8) (both_times hX (both_times hY hY)))))
    (then (same_of _ _ e) (both_times (same (slope * slope + q * x + q * x)) (back (both_times z3 z3))))

-- the y of the double; x3 is the x of the double
pub doubled_y : (X Y Z M X3 x y slope q : ℕ) →
    Same (q + 1) X (x * (Z * Z)) →
    Same (q + 1) Y (y * (Z * (Z * Z))) →
    Same (q + 1) M (slope * (2 * y) * (Z * Z * (Z * Z))) →
    Same (q + 1) X3 ((slope * slope + q * x + q * x) * (2 * (Y * Z) * (2 * (Y * Z)))) →
    Same (q + 1) (M * (4 * (X * (Y * Y)) + q * X3) + q * (8 * (Y * Y * (Y * Y))))
    ((slope * (x + q * (slope * slope + q * x + q * x)) + q * y) * (2 * (Y * Z) * (2 * (Y * Z) * (2 * (Y * Z)))))
doubled_y X Y Z M X3 x y slope q hX hY hM hX3 =
    let l : ℕ = slope * (2 * y) * (Z * Z * (Z * Z)) in
    let v : ℕ = y * (Z * (Z * Z)) in
    let u : ℕ = x * (Z * Z) in
    let w : ℕ = slope * slope + q * x + q * x in
    let e : l * (4 * (u * (v * v)) + q * (w * (2 * (v * Z) * (2 * (v * Z))))) + q * (8 * (v * v * (v * v)))
    ≡ (slope * (x + q * w) + q * y) * (2 * (v * Z) * (2 * (v * Z) * (2 * (v * Z)))) = omega arith in
    let z3 = both_times (same {p = q + 1} 2) (both_times hY (same Z)) in
    let x3 = then hX3 (both_times (same w) (both_times z3 z3)) in
    then (both_plus (both_times hM (both_plus (both_times (same 4) (both_times hX (both_times hY hY))) (both_times (same q) x3)))
    (both_times (same q) (both_times (same 8) (both_times (both_times hY hY) (both_times hY hY)))))
    (then (same_of _ _ e) (both_times (same (slope * (x + q * w) + q * y)) (back (both_times z3 (both_times z3 z3)))))
