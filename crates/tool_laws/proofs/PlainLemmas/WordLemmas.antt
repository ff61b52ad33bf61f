-- Numbers, hex digits, hashes and base64 are plain.
use Rattle.std.proofs.Common.{◌≡◌, ℕ, zero, suc, ◌<◌, ◌+◌, ◌*◌, ◌/◌, ◌%◌, ◌==◌, true, false, cond, List, [], ◌∷◌, length, slice_index, replicate, codes, refl, arith}
use Rattle.std.specs.Fmt.{decimal, digit_glyph, digits, digits_onto}
use Rattle.std.specs.List.{list_all}
use Rattle.std.proofs.lemmas.Bool.Decides.{nat_tests}
use Rattle.base64.specs.Engines.{standard}
use Rattle.base64.specs.GeneralPurpose.{encode_of, engine_symbols}
use Rattle.base64.specs.Rfc4648.{encode, encode_symbols, padding_len}
use Rattle.hex.specs.Hex.{encode_lower, encode_with, lower_digits}
use Rattle.warg_crypto.specs.HashText.{hash_text}
use Rattle.warg_crypto.specs.declared.hash.AnyHash.{AnyHash}
use Rattle.tool_laws.specs.Plain.Plain.{AreBytes, is_plain, is_sign}
use Rattle.tool_laws.proofs.PlainLemmas.PlainLemmas.{all_at, plain_append, plain_cons}

-- ---- numbers

glyph_plain : (d : ℕ) → d < 10 → is_sign (digit_glyph false d) ≡ true
glyph_plain d h = grind (arith, nat_tests)

onto : (k n : ℕ) (acc : List ℕ) → is_plain acc ≡ true → is_plain (digits_onto k 10 false n acc) ≡ true
onto zero n acc h = h
onto (suc k) n acc h =
    let glyph : ℕ = digit_glyph false (n % 10) in
    let more : is_plain (glyph ∷ acc) ≡ true = plain_cons glyph acc (glyph_plain (n % 10) (omega arith)) h in
    elim (n / 10 == 0) as (λ b. is_plain (cond b (glyph ∷ acc) (digits_onto k 10 false (n / 10) (glyph ∷ acc))) ≡ true) [
      | true ↦ more
      | false ↦ onto k (n / 10) (glyph ∷ acc) more
    ]

-- a number in decimal digits
pub decimal_plain : (n : ℕ) → is_plain (decimal n) ≡ true
unfolding digits
decimal_plain n = onto 64 n [] refl

-- ---- hex

digits_plain : list_all is_sign lower_digits ≡ true
digits_plain = refl

digit_plain : (d : ℕ) → d < 16 → is_sign (slice_index lower_digits d) ≡ true
digit_plain d h = all_at is_sign lower_digits digits_plain d h

-- bytes in hex digits
pub hex_plain : (bytes : List ℕ) → AreBytes bytes → is_plain (encode_lower bytes) ≡ true
unfolding encode_with
hex_plain [] h = refl
hex_plain (b ∷ bytes) h =
    let fits : b < 256 = h.0 in
    let high : ℕ = slice_index lower_digits (b / 16) in
    let low : ℕ = slice_index lower_digits (b % 16) in
    plain_cons high (low ∷ encode_lower bytes) (digit_plain (b / 16) (omega arith))
    (plain_cons low (encode_lower bytes) (digit_plain (b % 16) (omega arith)) (hex_plain bytes h.1))

-- a hash
pub hash_plain : (h : AnyHash) → AreBytes h.bytes → is_plain (hash_text h) ≡ true
hash_plain h fits = plain_append (codes "sha256:") (encode_lower h.bytes) refl (hex_plain h.bytes fits)

-- ---- base64

module _ (t : List ℕ) (at : (i : ℕ) → i < 64 → is_sign (slice_index t i) ≡ true) where
  symbols_plain : (bytes : List ℕ) → AreBytes bytes → is_plain (encode_symbols t bytes) ≡ true
  unfolding encode_symbols
  symbols_plain [] h = refl
  symbols_plain (a ∷ []) h =
      let x : a < 256 = h.0 in
      let second : ℕ = slice_index t (a % 4 * 16) in
      plain_cons (slice_index t (a / 4)) (second ∷ []) (at (a / 4) (omega arith)) (plain_cons second [] (at (a % 4 * 16) (omega arith)) refl)
  symbols_plain (a ∷ b ∷ []) h =
      let x : a < 256 = h.0 in
      let y : b < 256 = h.1.0 in
      let second : ℕ = slice_index t (a % 4 * 16 + b / 16) in
      let third : ℕ = slice_index t (b % 16 * 4) in
      plain_cons (slice_index t (a / 4)) (second ∷ third ∷ []) (at (a / 4) (omega arith))
      (plain_cons second (third ∷ []) (at (a % 4 * 16 + b / 16) (omega arith)) (plain_cons third [] (at (b % 16 * 4) (omega arith)) refl))
  symbols_plain (a ∷ b ∷ c ∷ rest) h =
      let x : a < 256 = h.0 in
      let y : b < 256 = h.1.0 in
      let z : c < 256 = h.1.1.0 in
      let second : ℕ = slice_index t (a % 4 * 16 + b / 16) in
      let third : ℕ = slice_index t (b % 16 * 4 + c / 64) in
      let fourth : ℕ = slice_index t (c % 64) in
      let more : List ℕ = encode_symbols t rest in
      plain_cons (slice_index t (a / 4)) (second ∷ third ∷ fourth ∷ more) (at (a / 4) (omega arith))
      (plain_cons second (third ∷ fourth ∷ more) (at (a % 4 * 16 + b / 16) (omega arith))
      (plain_cons third (fourth ∷ more) (at (b % 16 * 4 + c / 64) (omega arith))
      (plain_cons fourth more (at (c % 64) (omega arith)) (symbols_plain rest h.1.1.1))))

  padding_plain : (n : ℕ) → is_plain (replicate n 61) ≡ true
  padding_plain zero = refl
  padding_plain (suc n) = plain_cons 61 (replicate n 61) refl (padding_plain n)

  encode_plain : (bytes : List ℕ) → AreBytes bytes → is_plain (encode t 61 true bytes) ≡ true
  encode_plain bytes h =
      plain_append (encode_symbols t bytes) (replicate (padding_len (length bytes)) 61) (symbols_plain bytes h)
      (padding_plain (padding_len (length bytes)))

alphabet_plain : list_all is_sign (engine_symbols standard) ≡ true
alphabet_plain = refl

-- bytes in base64
pub base64_plain : (bytes : List ℕ) → AreBytes bytes → is_plain (encode_of standard bytes) ≡ true
base64_plain bytes h =
    encode_plain (engine_symbols standard) (λ i below. all_at is_sign (engine_symbols standard) alphabet_plain i below) bytes h
