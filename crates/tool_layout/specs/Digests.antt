-- Ids of keys, of records and of contents: texts of digests.
use Rattle.std.specs.Prelude.{ℕ, ◌==◌, Bool, false, ◌&&◌, ◌||◌, if◌then◌else◌, nat_le, nat_lt, List, codes, length, Option, Some, None}
use Rattle.std.specs.List.{after_first, before_first, list_all, position_or_len}
use Rattle.std.specs.Str.{bytes_eq}
use Rattle.warg_crypto.specs.HashText.{is_colon}

-- what stands behind `sha256:`, where a text begins so
abbrev pub behind_sha256 : List ℕ → Option (List ℕ)
behind_sha256 text =
    if nat_lt (position_or_len is_colon text) (length text) && bytes_eq (before_first is_colon text) (codes "sha256") then Some (after_first is_colon text)
    else None

-- whether a byte is a lower-case hex digit
abbrev pub is_hex_digit : ℕ → Bool
is_hex_digit b = (nat_le 48 b && nat_le b 57) || (nat_le 97 b && nat_le b 102)

-- whether bytes are the digits of a digest: 64 lower-case hex digits
abbrev pub are_digits : List ℕ → Bool
are_digits digits = length digits == 64 && list_all is_hex_digit digits

-- whether digits are there, and are those of a digest
abbrev pub are_digits_there : Option (List ℕ) → Bool
are_digits_there (Some digits) = are_digits digits
are_digits_there None = false

-- whether a text is a digest: `sha256:` and its digits
abbrev pub is_digest : List ℕ → Bool
is_digest text = are_digits_there (behind_sha256 text)
