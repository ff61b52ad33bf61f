use Rattle.std.proofs.Common.{◌≡◌, ℕ, ◌+◌, ◌-◌, ◌*◌, ◌%◌, ◌<◌, sym, ◌∙◌, arith}
use Rattle.std.proofs.Math.Nat.{mod-eq_of_lt}
use Rattle.warg_primes.proofs.Congruent.{Same, same, same_of, same_mod, back, then, both_times, both_plus, less}
use Rattle.warg_p256.proofs.Doubling.{tangent, doubled_x, doubled_y}

-- the steps of `double`, modulo p
pub record Steps (p X Y Z zz yy lo hi product p2 m yy2 yy4 s mm ss x3 t y8 sx msx y3 yz z3 : ℕ) : Type 0 where
  pub zz_is : zz ≡ (Z * Z) % p
  pub yy_is : yy ≡ (Y * Y) % p
  pub lo_is : lo ≡ (X + (p - zz)) % p
  pub hi_is : hi ≡ (X + zz) % p
  pub product_is : product ≡ (lo * hi) % p
  pub p2_is : p2 ≡ (product + product) % p
  pub m_is : m ≡ (p2 + product) % p
  pub yy2_is : yy2 ≡ (yy + yy) % p
  pub yy4_is : yy4 ≡ (yy2 + yy2) % p
  pub s_is : s ≡ (X * yy4) % p
  pub mm_is : mm ≡ (m * m) % p
  pub ss_is : ss ≡ (s + s) % p
  pub x3_is : x3 ≡ (mm + (p - ss)) % p
  pub t_is : t ≡ (yy2 * yy2) % p
  pub y8_is : y8 ≡ (t + t) % p
  pub sx_is : sx ≡ (s + (p - x3)) % p
  pub msx_is : msx ≡ (m * sx) % p
  pub y3_is : y3 ≡ (msx + (p - y8)) % p
  pub yz_is : yz ≡ (Y * Z) % p
  pub z3_is : z3 ≡ (yz + yz) % p

same_reduced : (p a b : ℕ) → a < p → Same p a b → a ≡ b % p
same_reduced p a b h s = sym (mod-eq_of_lt h) ∙ s.is

-- x3, y3, z3 stand for the point that the tangent gives
pub doubled : (q X Y Z zz yy lo hi product p2 m yy2 yy4 s mm ss x3 t y8 sx msx y3 yz z3 x y slope : ℕ) →
    Steps (q + 1) X Y Z zz yy lo hi product p2 m yy2 yy4 s mm ss x3 t y8 sx msx y3 yz z3 →
    Same (q + 1) X (x * (Z * Z)) →
    Same (q + 1) Y (y * (Z * (Z * Z))) →
    Same (q + 1) (slope * (2 * y)) (3 * (x * x) + q * 3) →
    Same (q + 1) x3 ((slope * slope + q * x + q * x) * (z3 * z3))
    × Same (q + 1) y3 ((slope * (x + q * (slope * slope + q * x + q * x)) + q * y) * (z3 * (z3 * z3)))
doubled q X Y Z zz yy lo hi product p2 m yy2 yy4 s mm ss x3 t y8 sx msx y3 yz z3 x y slope k hX hY hs =
    let p : ℕ = q + 1 in
    let zz' : Same p zz (Z * Z) = same_mod p zz (Z * Z) k.zz_is in
    let yy' : Same p yy (Y * Y) = same_mod p yy (Y * Y) k.yy_is in
    let lo' : Same p lo (X + q * (Z * Z)) = then (less q lo X zz (Z * Z) k.lo_is k.zz_is) (both_plus (same X) (both_times (same q) zz')) in
    let hi' : Same p hi (X + Z * Z) = then (same_mod p hi (X + zz) k.hi_is) (both_plus (same X) zz') in
    let w : ℕ = (X + q * (Z * Z)) * (X + Z * Z) in
    let product' : Same p product w = then (same_mod p product (lo * hi) k.product_is) (both_times lo' hi') in
    let p2' : Same p p2 (w + w) = then (same_mod p p2 (product + product) k.p2_is) (both_plus product' product') in
    let m3 : w + w + w ≡ 3 * w = omega arith in
    let m' : Same p m (3 * w) = then (same_mod p m (p2 + product) k.m_is) (then (both_plus p2' product') (same_of _ _ m3)) in
    let l : Same p m (slope * (2 * y) * (Z * Z * (Z * Z))) = then m' (tangent X Z x y slope q hX hs) in
    let yy2' : Same p yy2 (Y * Y + Y * Y) = then (same_mod p yy2 (yy + yy) k.yy2_is) (both_plus yy' yy') in
    let yy4' : Same p yy4 (Y * Y + Y * Y + (Y * Y + Y * Y)) = then (same_mod p yy4 (yy2 + yy2) k.yy4_is) (both_plus yy2' yy2') in
    let e4 : X * (Y * Y + Y * Y + (Y * Y + Y * Y)) ≡ 4 * (X * (Y * Y)) = omega arith in
    let s' : Same p s (4 * (X * (Y * Y))) = then (same_mod p s (X * yy4) k.s_is) (then (both_times (same X) yy4') (same_of _ _ e4)) in
    let mm' : Same p mm (m * m) = same_mod p mm (m * m) k.mm_is in
    let e8 : 4 * (X * (Y * Y)) + 4 * (X * (Y * Y)) ≡ 8 * (X * (Y * Y)) = omega arith in
    let ss' : Same p ss (8 * (X * (Y * Y))) = then (same_mod p ss (s + s) k.ss_is) (then (both_plus s' s') (same_of _ _ e8)) in
    let x3' : Same p x3 (m * m + q * (8 * (X * (Y * Y)))) = then (less q x3 mm ss (s + s) k.x3_is k.ss_is) (both_plus mm' (both_times (same q) ss')) in
    let yz' : Same p yz (Y * Z) = same_mod p yz (Y * Z) k.yz_is in
    let e2 : Y * Z + Y * Z ≡ 2 * (Y * Z) = omega arith in
    let z3' : Same p z3 (2 * (Y * Z)) = then (same_mod p z3 (yz + yz) k.z3_is) (then (both_plus yz' yz') (same_of _ _ e2)) in
    let x3'' : Same p x3 ((slope * slope + q * x + q * x) * (2 * (Y * Z) * (2 * (Y * Z)))) = then x3' (doubled_x X Y Z m x y slope q hX hY l) in
    let f : ℕ = Y * Y * (Y * Y) in
    let t' : Same p t ((Y * Y + Y * Y) * (Y * Y + Y * Y)) = then (same_mod p t (yy2 * yy2) k.t_is) (both_times yy2' yy2') in
    let f8 : (Y * Y + Y * Y) * (Y * Y + Y * Y) + (Y * Y + Y * Y) * (Y * Y + Y * Y) ≡ 8 * f = omega arith in
    let y8' : Same p y8 (8 * f) = then (same_mod p y8 (t + t) k.y8_is) (then (both_plus t' t') (same_of _ _ f8)) in
    let sx' : Same p sx (4 * (X * (Y * Y)) + q * x3) = then (less q sx s x3 (mm + (p - ss)) k.sx_is k.x3_is) (both_plus s' (same (q * x3))) in
    let msx' : Same p msx (m * (4 * (X * (Y * Y)) + q * x3)) = then (same_mod p msx (m * sx) k.msx_is) (both_times (same m) sx') in
    let y3' : Same p y3 (m * (4 * (X * (Y * Y)) + q * x3) + q * (8 * f)) = then (less q y3 msx y8 (t + t) k.y3_is k.y8_is) (both_plus msx' (both_times (same q) y8')) in
    let y3'' = then y3' (doubled_y X Y Z m x3 x y slope q hX hY l x3'') in (
      then x3'' (both_times (same (slope * slope + q * x + q * x)) (back (both_times z3' z3'))),
      then y3'' (both_times (same (slope * (x + q * (slope * slope + q * x + q * x)) + q * y)) (back (both_times z3' (both_times z3' z3')))),
    )
