-- Verification of ECDSA on P-256 with SHA-256 (SEC 1, 4.1.4; X9.62; FIPS 186-5, 6.4.2; FIPS 180-4).
use Rattle.std.specs.Prelude.{◌≡◌, ℕ, ◌*◌, ◌%◌, ◌^◌, ◌<◌, List}
use Rattle.sha2.specs.Sha256.{sha256}
use Rattle.warg_modular.specs.BigEndian.{big_endian}
use Rattle.warg_p256.specs.Sec1.{IsKey}
use Rattle.warg_p256.specs.Der.{IsDer}
use Rattle.warg_curve.specs.Order.{order}
use Rattle.warg_curve.specs.Curve.{Point, infinity, at, add, base}
use Rattle.warg_curve.specs.Group.{multiple}

-- the point's x, modulo the order, is r
abbrev pub HasX : Point → ℕ → Type 0
HasX infinity r = ⊥
HasX (at x y) r = x % order ≡ r

-- (r, s) is a signature by the key q of a message with the hash e: w is 1 / s modulo the order
pub record IsSignature (q : Point) (e r s : ℕ) : Type 0 where
  pub r_some : 0 < r
  pub r_below : r < order
  pub s_some : 0 < s
  pub s_below : s < order
  pub w : ℕ
  pub w_below : w < order
  pub w_is : (s * w) % order ≡ 1
  pub x_is : HasX (add (multiple ((e * w) % order) base) (multiple ((r * w) % order) q)) r

-- the signature's bytes are one of the message by the key that the key's bytes write
pub record IsVerified (key message signature : List ℕ) : Type 0 where
  pub x : ℕ
  pub y : ℕ
  pub r : ℕ
  pub s : ℕ
  pub key_is : IsKey key x y
  pub der_is : IsDer signature r s
  pub signature_is : IsSignature (at x y) (big_endian (sha256 message) % 2 ^ 256) r s
