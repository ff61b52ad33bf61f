use Rattle.std.proofs.Common.{◌≡◌, ◌≢◌, ℕ, ◌+◌, ◌*◌, ◌%◌, ◌<◌, inl, inr, ap, sym, ◌∙◌, subst, arith}
use Rattle.std.proofs.lemmas.Bool.{cases_eq}
use Rattle.std.proofs.Math.Nat.{mul-zero, zero-mul}
use Rattle.warg_primes.proofs.Congruent.{Same, same, then, both_times, both_plus}
use Rattle.warg_p256.proofs.Doubled.{Steps, doubled}
use Rattle.warg_curve.specs.Field.{prime, minus, times}
use Rattle.warg_curve.specs.Curve.{Point, infinity, at, tangent_slope, double}
use Rattle.warg_p256.specs.Coordinates.{StandsFor}
use Rattle.warg_curve.proofs.CurveFacts.{HasInverses, low, two_below, three_below, whole, reduced, minus_as, times_below, zero_mod, zero_factor, quotient_times, double_flat, double_sloped, double_infinity}
use Rattle.warg_p256.proofs.Standing.{stands_third, stands_x, stands_y}

tangent_as : HasInverses → (x y : ℕ) → y < prime → y ≢ 0 → Same prime (tangent_slope x y * (2 * y)) (3 * (x * x) + low * 3)
tangent_as inv x y hy ny =
    let cube : Same prime (times 3 (times x x)) (3 * (x * x)) = then (whole (3 * times x x)) (both_times (same 3) (whole (x * x))) in
    let right : Same prime (minus (times 3 (times x x)) 3) (3 * (x * x) + low * 3) = then (minus_as (times 3 (times x x)) 3 three_below) (both_plus cube (same (low * 3))) in
    let n2 : times 2 y ≢ 0 = zero_factor inv 2 y two_below hy (omega arith) ny in
    then (quotient_times inv (minus (times 3 (times x x)) 3) (times 2 y) (2 * y) (whole (2 * y)) (times_below 2 y) n2) right

doubled_prime : (X Y Z zz yy lo hi product p2 m yy2 yy4 s mm ss x3 t y8 sx msx y3 yz z3 x y slope : ℕ) →
    Steps prime X Y Z zz yy lo hi product p2 m yy2 yy4 s mm ss x3 t y8 sx msx y3 yz z3 →
    Same prime X (x * (Z * Z)) →
    Same prime Y (y * (Z * (Z * Z))) →
    Same prime (slope * (2 * y)) (3 * (x * x) + low * 3) →
    Same prime x3 ((slope * slope + low * x + low * x) * (z3 * z3))
    × Same prime y3 ((slope * (x + low * (slope * slope + low * x + low * x)) + low * y) * (z3 * (z3 * z3)))
unfolding prime
doubled_prime = doubled low

no_z : (Y Z yz z3 : ℕ) → yz ≡ (Y * Z) % prime → z3 ≡ (yz + yz) % prime → Y * Z ≡ 0 → z3 ≡ 0
no_z Y Z yz z3 e f h =
    let g : yz ≡ 0 = e ∙ ap (λ v. v % prime) h ∙ zero_mod in
    f ∙ ap (λ v. (v + v) % prime) g ∙ zero_mod

some_z : HasInverses → (Y Z yz z3 y : ℕ) → yz ≡ (Y * Z) % prime → z3 ≡ (yz + yz) % prime → y < prime → Z < prime → y ≢ 0 → Z ≢ 0 → Y ≡ times y (times Z (times Z Z)) → z3 ≢ 0
some_z d Y Z yz z3 y e f hy hZ ny nZ hY h =
    let nZZ : times Z Z ≢ 0 = zero_factor d Z Z hZ hZ nZ nZ in
    let nZZZ : times Z (times Z Z) ≢ 0 = zero_factor d Z (times Z Z) hZ (times_below Z Z) nZ nZZ in
    let nY' : times y (times Z (times Z Z)) ≢ 0 = zero_factor d y (times Z (times Z Z)) hy (times_below Z (times Z Z)) ny nZZZ in
    let nY : Y ≢ 0 = λ (g : Y ≡ 0). nY' (sym hY ∙ g) in
    let bY : Y < prime = reduced Y _ hY in
    let nYZ : times Y Z ≢ 0 = zero_factor d Y Z bY hZ nY nZ in
    let two : times 2 (times Y Z) ≢ 0 = zero_factor d 2 (times Y Z) two_below (times_below Y Z) (omega arith) nYZ in
    let e2 : 2 * times Y Z ≡ yz + yz = omega (arith, e) in
    two (ap (λ v. v % prime) e2 ∙ sym f ∙ h)

pub stands_doubled : (X Y Z zz yy lo hi product p2 m yy2 yy4 s mm ss x3 t y8 sx msx y3 yz z3 : ℕ) →
    Steps prime X Y Z zz yy lo hi product p2 m yy2 yy4 s mm ss x3 t y8 sx msx y3 yz z3 →
    Z < prime → HasInverses → (a : Point) → StandsFor X Y Z a → StandsFor x3 y3 z3 (double a)
stands_doubled X Y Z zz yy lo hi product p2 m yy2 yy4 s mm ss x3 t y8 sx msx y3 yz z3 k hZ inv infinity st =
    subst (λ (r : Point). StandsFor x3 y3 z3 r) (sym double_infinity) (no_z Y Z yz z3 k.yz_is k.z3_is (ap (λ v. Y * v) st ∙ mul-zero Y))
stands_doubled X Y Z zz yy lo hi product p2 m yy2 yy4 s mm ss x3 t y8 sx msx y3 yz z3 k hZ inv (at x y) st =
    elim (cases_eq y 0) [
      | inl h ↦
          let e : Y ≡ 0 = st.4 ∙ ap (λ v. times v (times Z (times Z Z))) h ∙ ap (λ v. v % prime) (zero-mul (times Z (times Z Z))) ∙ zero_mod in
          subst (λ (r : Point). StandsFor x3 y3 z3 r) (sym (double_flat x y h)) (no_z Y Z yz z3 k.yz_is k.z3_is (ap (λ v. v * Z) e ∙ zero-mul Z))
      | inr h ↦
          let slope : ℕ = tangent_slope x y in
          let both = doubled_prime X Y Z zz yy lo hi product p2 m yy2 yy4 s mm ss x3 t y8 sx msx y3 yz z3 x y slope k (stands_x X x Z st.3) (stands_y Y y Z st.4) (tangent_as inv x y st.2 h) in
          subst (λ (r : Point). StandsFor x3 y3 z3 r) (sym (double_sloped x y h))
          (stands_third slope x y x x3 y3 z3 st.1 st.2 st.1 (reduced x3 _ k.x3_is) (reduced y3 _ k.y3_is) (some_z inv Y Z yz z3 y k.yz_is k.z3_is st.2 hZ h st.0 st.4) both.0 both.1)
    ]
