-- Points as bytes: public keys (SEC 1, 2.3.3 and 2.3.4).
use Rattle.std.specs.Prelude.{◌≡◌, ℕ, ◌+◌, ◌%◌, ◌^◌, ◌⊎◌, List, length, slice_index, slice_range}
use Rattle.warg_modular.specs.BigEndian.{big_endian}
use Rattle.warg_curve.specs.Curve.{at}
use Rattle.warg_curve.specs.Group.{IsOnCurve}

-- the number that 32 bytes from a place on write, the highest first
abbrev pub number_at : List ℕ → ℕ → ℕ
number_at bytes i = big_endian (slice_range bytes i (i + 32)) % 2 ^ 256

-- 65 bytes write the point (x, y): 4, x and y
pub record IsUncompressed (bytes : List ℕ) (x y : ℕ) : Type 0 where
  pub length_is : length bytes ≡ 65
  pub tag_is : slice_index bytes 0 ≡ 4
  pub x_is : number_at bytes 1 ≡ x
  pub y_is : number_at bytes 33 ≡ y
  pub on_curve : IsOnCurve (at x y)

-- 33 bytes write the point (x, y): 2 or, where y is odd, 3, and x
pub record IsCompressed (bytes : List ℕ) (x y : ℕ) : Type 0 where
  pub length_is : length bytes ≡ 33
  pub tag_is : slice_index bytes 0 ≡ 2 + y % 2
  pub x_is : number_at bytes 1 ≡ x
  pub on_curve : IsOnCurve (at x y)

-- the bytes write the point (x, y), uncompressed or compressed: it is the key
abbrev pub IsKey : List ℕ → ℕ → ℕ → Type 0
IsKey bytes x y = IsUncompressed bytes x y ⊎ IsCompressed bytes x y
