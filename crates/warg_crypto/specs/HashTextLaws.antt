-- Which digits spell a hash, and that the text of a hash reads back.
use Rattle.std.proofs.Common.{◌≡◌, ◌%◌, nat_lt, ◌↔◌, ℕ, List, length, Result, Ok, Err, IsOk, refl, arith}
use Rattle.std.specs.List.{AllPass}
use Rattle.std.specs.Str.{IsAscii}
use Rattle.std.proofs.lemmas.Str.Ascii.{IsAscii-from_all}
use Rattle.std.proofs.lemmas.Bool.{ltb-true}
use Rattle.std.proofs.lemmas.List.Sums.{AllPass-from_list_all}
use Rattle.hex.specs.Hex.{decode_of, is_hex_digit, lower_digits}
use Rattle.hex.specs.declared.error.FromHexError.{FromHexError}
use Rattle.hex.specs.Hex.{IsBytes, encode_lower}
use Rattle.warg_crypto.specs.HashText.{hash_of, hash_text}
use Rattle.warg_crypto.specs.declared.hash.AnyHash.{AnyHash}
use Rattle.warg_crypto.specs.declared.hash.HashAlgorithm.{HashAlgorithm}
use Rattle.warg_crypto.specs.declared.hash.HashAlgorithm.TheVariants.{Sha256}
use Rattle.hex.proofs.HexLemmas.{decode_of-encode_lower, length-encode_with, decode_of-ok, decode_of-digits}
use Rattle.warg_crypto.specs.HashText.{hash_of_digits, hash_of_bytes}
use Rattle.warg_crypto.specs.declared.hash.AnyHashError.TheVariants as fault

ok_value : (r : Result (List ℕ) FromHexError) → IsOk r → (bytes : List ℕ) × (r ≡ Ok bytes)
ok_value (Ok bytes) h = (bytes, refl)
ok_value (Err e) h = cc h

-- a text decodes exactly if it is pairs of digits
pub IsOk-decode_of : (digits : List ℕ) → IsOk (decode_of digits)
    ↔ ((length digits % 2 ≡ 0) × AllPass is_hex_digit digits)
IsOk-decode_of digits = (
  λ h.
      let r = ok_value (decode_of digits) h in
      let all = decode_of-ok digits r.0 r.1 in
      (all.0, all.1),
  λ h. rw (decode_of-digits digits h.0 h.1).1 refl,
)

by_bytes-bad : (count : ℕ) (r : Result (List ℕ) FromHexError) → (IsOk r → ⊥)
    → hash_of_bytes count r ≡ Err fault.BadHex
by_bytes-bad count (Ok bytes) h = absurd (h refl)
by_bytes-bad count (Err e) h = refl

by_bytes-long : (count : ℕ) (r : Result (List ℕ) FromHexError) → IsOk r → (count ≡ 64 → ⊥)
    → hash_of_bytes count r ≡ Err fault.BadLength
by_bytes-long count (Ok bytes) ok h = grind (arith)
by_bytes-long count (Err e) ok h = cc ok

-- what is not pairs of hex digits is refused as bad hex
pub hash_of_digits-bad : (digits : List ℕ) → (((length digits % 2 ≡ 0) × AllPass is_hex_digit digits) → ⊥)
    → hash_of_digits digits ≡ Err fault.BadHex
hash_of_digits-bad digits h = by_bytes-bad (length digits) (decode_of digits) (λ ok. h ((IsOk-decode_of digits).0 ok))

-- pairs of hex digits that are not 64 digits are refused for their length
pub hash_of_digits-long : (digits : List ℕ) → ((length digits % 2 ≡ 0) × AllPass is_hex_digit digits)
    → (length digits ≡ 64 → ⊥) → hash_of_digits digits ≡ Err fault.BadLength
hash_of_digits-long digits pairs h = by_bytes-long (length digits) (decode_of digits) ((IsOk-decode_of digits).1 pairs) h

-- the lower-case hex digits are ASCII
pub IsAscii-lower_digits : IsAscii lower_digits
IsAscii-lower_digits = IsAscii-from_all lower_digits (λ k d below. ltb-true _ _ (AllPass-from_list_all (λ b. nat_lt b 128) lower_digits refl k d below))

text_reads_back : (a : HashAlgorithm) (bytes : List ℕ) → length bytes ≡ 32 → IsBytes bytes
    → hash_of_digits (encode_lower bytes) ≡ Ok (record { algorithm = a; bytes = bytes })
text_reads_back Sha256 bytes len fits =
    let twice : length (encode_lower bytes) ≡ 64 = omega (arith, length-encode_with lower_digits bytes) in
    rw (decode_of-encode_lower bytes fits, twice) refl

-- what is written of a hash reads back
pub hash_of-hash_text : (h : AnyHash) → length h.bytes ≡ 32 → IsBytes h.bytes → hash_of (hash_text h) ≡ Ok h
hash_of-hash_text h len fits = grind (arith, text_reads_back h.algorithm h.bytes len fits)
