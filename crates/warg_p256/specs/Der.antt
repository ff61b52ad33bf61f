-- The DER of a signature (RFC 3279, 2.2.3; INTEGER: X.690, 8.3).
use Rattle.std.specs.Prelude.{◌≡◌, ℕ, ◌+◌, ◌%◌, ◌^◌, ◌<◌, ◌≤◌, ◌⊎◌}
use Rattle.std.specs.Prelude.{List, [], ◌∷◌, ◌++◌, length, slice_index}
use Rattle.warg_modular.specs.BigEndian.{big_endian}

-- an INTEGER's contents: a number below 2 ^ 256, not negative, in as few bytes as serve
pub record IsInteger (bytes : List ℕ) (n : ℕ) : Type 0 where
  pub some : 0 < length bytes
  pub few : length bytes ≤ 33
  pub fits : length bytes ≡ 33 → slice_index bytes 0 ≡ 0
  pub positive : slice_index bytes 0 < 128
  pub shortest : (length bytes ≡ 1) ⊎ ((0 < slice_index bytes 0) ⊎ (128 ≤ slice_index bytes 1))
  pub value_is : big_endian bytes % 2 ^ 256 ≡ n

-- an INTEGER with these contents: its tag, their length, themselves; and what follows
abbrev pub integer : List ℕ → List ℕ → List ℕ
integer contents rest = 2 ∷ length contents ∷ (contents ++ rest)

-- the bytes are SEQUENCE { INTEGER r, INTEGER s }, with nothing behind
pub record IsDer (bytes : List ℕ) (r s : ℕ) : Type 0 where
  pub first : List ℕ
  pub second : List ℕ
  pub short : length bytes < 130
  pub text : bytes ≡ 48 ∷ (length first + length second + 4) ∷ integer first (integer second [])
  pub r_is : IsInteger first r
  pub s_is : IsInteger second s
