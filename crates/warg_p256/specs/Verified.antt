-- The relations of Sec1, Der and Ecdsa as tests, so that a verifier can name one answer: where one
-- says that there is a number, all below a bound are tried. Laws says that they mean the same.
use Rattle.std.specs.Prelude.{ℕ, zero, suc, ◌+◌, ◌*◌, ◌%◌, ◌^◌, ◌==◌, ◌&&◌, ◌||◌, nat_lt, nat_le}
use Rattle.std.specs.Prelude.{Bool, false, List, [], ◌∷◌, length, slice_index, take, drop}
use Rattle.std.specs.Str.{bytes_eq}
use Rattle.sha2.specs.Sha256.{sha256}
use Rattle.warg_modular.specs.BigEndian.{big_endian}
use Rattle.warg_curve.specs.Field.{prime, times}
use Rattle.warg_curve.specs.Order.{order}
use Rattle.warg_curve.specs.Curve.{Point, infinity, at, add, base}
use Rattle.warg_curve.specs.Group.{right_side_of, multiple}
use Rattle.warg_p256.specs.Sec1.{number_at}
use Rattle.warg_p256.specs.Der.{integer}

-- whether some number below a bound passes a test
unfoldable pub any_below : ℕ → (ℕ → Bool) → Bool
any_below zero test = false
any_below (suc n) test = test n || any_below n test

-- `IsUncompressed`
abbrev pub is_uncompressed : List ℕ → ℕ → ℕ → Bool
is_uncompressed bytes x y =
    length bytes == 65 && (slice_index bytes 0 == 4
    && (number_at bytes 1 == x && (number_at bytes 33 == y && times y y == right_side_of x)))

-- `IsCompressed`
abbrev pub is_compressed : List ℕ → ℕ → ℕ → Bool
is_compressed bytes x y =
    length bytes == 33 && (slice_index bytes 0 == 2 + y % 2
    && (number_at bytes 1 == x && times y y == right_side_of x))

-- `IsKey`
abbrev pub is_key : List ℕ → ℕ → ℕ → Bool
is_key bytes x y = is_uncompressed bytes x y || is_compressed bytes x y

-- `IsInteger`
abbrev pub is_integer : List ℕ → ℕ → Bool
is_integer bytes n =
    nat_lt 0 (length bytes) && (nat_le (length bytes) 33
    && ((nat_lt (length bytes) 33 || slice_index bytes 0 == 0) && (nat_lt (slice_index bytes 0) 128
    && ((length bytes == 1 || (nat_lt 0 (slice_index bytes 0) || nat_le 128 (slice_index bytes 1)))
    && big_endian bytes % 2 ^ 256 == n))))

-- `IsDer`: the byte 3 is the length of the first INTEGER's contents
abbrev pub is_der : List ℕ → ℕ → ℕ → Bool
is_der bytes r s =
    let first : List ℕ = take (slice_index bytes 3) (drop 4 bytes) in
    let second : List ℕ = drop 2 (drop (slice_index bytes 3) (drop 4 bytes)) in
    let text : List ℕ = integer first (integer second []) in
    nat_lt (length bytes) 130 && (bytes_eq bytes (48 ∷ (length first + length second + 4) ∷ text)
    && (is_integer first r && is_integer second s))

-- `HasX`
abbrev pub has_x : Point → ℕ → Bool
has_x infinity r = false
has_x (at x y) r = x % order == r

-- `IsSignature`
abbrev pub is_signature : Point → ℕ → ℕ → ℕ → Bool
is_signature q e r s =
    nat_lt 0 r && (nat_lt r order && (nat_lt 0 s && (nat_lt s order
    && any_below order (λ w. (s * w) % order == 1
    && has_x (add (multiple ((e * w) % order) base) (multiple ((r * w) % order) q)) r))))

-- `IsVerified`, as one answer
unfoldable pub is_verified : List ℕ → List ℕ → List ℕ → Bool
is_verified key message signature =
    any_below prime (λ x. any_below prime (λ y. is_key key x y
    && any_below order (λ r. any_below order (λ s. is_der signature r s
    && is_signature (at x y) (big_endian (sha256 message) % 2 ^ 256) r s))))
