-- Hashes and their texts: an algorithm's name, a colon, 64 hex digits.
use Rattle.std.specs.Prelude.{ℕ, ◌≡◌, ◌==◌, Bool, if◌then◌else◌, List, ◌++◌, length, codes, Result, Ok, Err}
use Rattle.std.specs.List.{before_first, after_first, position_or_len}
use Rattle.std.specs.Str.{bytes_eq}
use Rattle.hex.specs.Hex.{encode_lower, decode_of}
use Rattle.hex.specs.declared.error.FromHexError.{FromHexError}
use Rattle.sha2.specs.Sha256.{sha256}
use Rattle.warg_crypto.specs.declared.hash.HashAlgorithm.{HashAlgorithm}
use Rattle.warg_crypto.specs.declared.hash.HashAlgorithm.TheVariants.{Sha256}
use Rattle.warg_crypto.specs.declared.hash.UnknownAlgorithm.{UnknownAlgorithm}
use Rattle.warg_crypto.specs.declared.hash.AnyHash.{AnyHash}
use Rattle.warg_crypto.specs.declared.hash.AnyHashError.{AnyHashError}
use Rattle.warg_crypto.specs.declared.hash.AnyHashError.TheVariants as fault

-- the hash of bytes by SHA-256
abbrev pub sha256_hash_of : List ℕ → AnyHash
sha256_hash_of bytes = record { algorithm = Sha256; bytes = sha256 bytes }

-- the name of an algorithm
abbrev pub algorithm_text : HashAlgorithm → List ℕ
algorithm_text Sha256 = codes "sha256"

-- the algorithm that a text names
abbrev pub algorithm_of : List ℕ → Result HashAlgorithm UnknownAlgorithm
algorithm_of text = if bytes_eq text (codes "sha256") then Ok Sha256 else Err (record {})

-- the text of a hash: `sha256:` and its bytes in lower-case hex digits
abbrev pub hash_text : AnyHash → List ℕ
hash_text h = codes "sha256:" ++ encode_lower h.bytes

-- whether the byte is a colon
abbrev pub is_colon : ℕ → Bool
is_colon b = b == 58

-- the hash of what pairs of digits spell: `count` of them
abbrev pub hash_of_bytes : ℕ → Result (List ℕ) FromHexError → Result AnyHash AnyHashError
hash_of_bytes count (Ok bytes) = if count == 64 then Ok (record { algorithm = Sha256; bytes = bytes }) else Err fault.BadLength
hash_of_bytes count (Err e) = Err fault.BadHex

-- the hash that the digits after the colon spell: first they must be pairs of digits, then 64
abbrev pub hash_of_digits : List ℕ → Result AnyHash AnyHashError
hash_of_digits digits = hash_of_bytes (length digits) (decode_of digits)

-- the hash that a text spells, or the first fault: the text is cut at its first colon
abbrev pub hash_of : List ℕ → Result AnyHash AnyHashError
hash_of text =
    if position_or_len is_colon text == length text then Err fault.MissingAlgorithm
    else if bytes_eq (before_first is_colon text) (codes "sha256")
    then hash_of_digits (after_first is_colon text)
    else Err fault.UnknownAlgorithm

-- the grammar of a hash's text: `sha256:` and 64 hex digits, of either case, whose pairs spell the bytes
pub record IsHashText (text : List ℕ) (h : AnyHash) : Type 0 where
  pub digits : List ℕ
  pub whole : text ≡ codes "sha256:" ++ digits
  pub count : length digits ≡ 64
  pub spell : decode_of digits ≡ Ok h.bytes
