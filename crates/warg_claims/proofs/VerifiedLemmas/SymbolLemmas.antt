-- The symbols of hex and base64: none of them is printed otherwise than as itself.
use Rattle.std.proofs.Common.{◌≡◌, ◌<◌, ◌+◌, ◌*◌, ◌/◌, ◌%◌, ℕ, zero, suc, Bool, false, true, List, [], ◌∷◌, ◌++◌, length, slice_index, replicate, refl, sym, ap, ◌∙◌, arith, encode_utf8_all, IsUtf8}
use Rattle.std.specs.List.{list_any}
use Rattle.std.specs.Str.{IsAscii, NoCharPasses, NonePass}
use Rattle.std.proofs.lemmas.Str.{IsUtf8-append, IsUtf8-from_ascii, chars-IsAscii, encode_ascii, encodes-IsAscii}
use Rattle.std.proofs.lemmas.Str.Ascii.{IsAscii-cons}
use Rattle.base64.specs.Engines.{standard}
use Rattle.base64.specs.GeneralPurpose.{encode_of, engine_symbols}
use Rattle.base64.specs.Rfc4648.{encode, encode_symbols, padding_len}
use Rattle.base64.proofs.EngineFacts.{IsAscii-encode_of}
use Rattle.hex.specs.Hex.{IsBytes, encode_lower, encode_with, lower_digits}
use Rattle.hex.proofs.HexLemmas.{IsAscii-encode_with}
use Rattle.warg_crypto.specs.HashTextLaws.{IsAscii-lower_digits}
use Rattle.warg_crypto.specs.NamedBytes.{NamedBytes, named_bytes_text}
use Rattle.warg_printable.specs.Characters.{is_hidden}
use Rattle.warg_printable.specs.Printable.{escaped, is_escaped}
use Rattle.warg_printable.proofs.CharacterLemmas.{none-append, or_left_false, or_right_false}
use Rattle.warg_printable.proofs.ShownLemmas.{escaped-append, escaped_same}
use Rattle.warg_claims.specs.Verified.Claims.{named_word}

-- where no symbol of a table passes a test
none_at : (p : ℕ → Bool) (xs : List ℕ) → list_any p xs ≡ false → (k : ℕ) → k < length xs → p (slice_index xs k) ≡ false
none_at p [] h k below = absurd (omega arith)
none_at p (x ∷ xs) h zero below = or_left_false (p x) (list_any p xs) h
none_at p (x ∷ xs) h (suc k) below = none_at p xs (or_right_false (p x) (list_any p xs) h) k (omega arith)

-- ---- hex

no_digit : list_any is_hidden lower_digits ≡ false
unfolding is_hidden
no_digit = refl

digit_shown : (d : ℕ) → d < 16 → is_hidden (slice_index lower_digits d) ≡ false
digit_shown d h = none_at is_hidden lower_digits no_digit d h

-- hex digits are not hidden
none-hex : (bytes : List ℕ) → IsBytes bytes → NonePass is_hidden (encode_lower bytes)
unfolding encode_with
none-hex [] h = tt
none-hex (b ∷ bytes) h =
    let fits : b < 256 = h 0 in
    (digit_shown (b / 16) (omega arith), (digit_shown (b % 16) (omega arith), none-hex bytes (λ k. h (suc k))))

hex_ascii : (bytes : List ℕ) → IsAscii (encode_lower bytes)
hex_ascii bytes = IsAscii-encode_with lower_digits bytes IsAscii-lower_digits

blank_shown : is_hidden 32 ≡ false
unfolding is_hidden
blank_shown = refl

-- a space and hex digits
pub hex_shown : (bytes : List ℕ) → IsBytes bytes → NoCharPasses is_hidden (32 ∷ encode_lower bytes)
hex_shown bytes h = (
  32 ∷ encode_lower bytes,
  encodes-IsAscii (32 ∷ encode_lower bytes) (IsAscii-cons 32 (encode_lower bytes) (omega arith) (hex_ascii bytes)),
  (blank_shown, none-hex bytes h),
)

-- a space and a text with no hidden character
pub blank_and : (text : List ℕ) → NoCharPasses is_hidden text → NoCharPasses is_hidden (32 ∷ text)
blank_and text h = (
  32 ∷ h.0,
  ap (λ (l : List ℕ). l ++ encode_utf8_all h.0) (encode_ascii 32 (omega arith)) ∙ ap (λ (l : List ℕ). 32 ∷ l) h.1,
  (blank_shown, h.2),
)

-- ---- base64

module _ (p : ℕ → Bool) (t : List ℕ) (at : (i : ℕ) → i < 64 → p (slice_index t i) ≡ false) where
  none-symbols : (bytes : List ℕ) → IsBytes bytes → NonePass p (encode_symbols t bytes)
  unfolding encode_symbols
  none-symbols [] h = tt
  none-symbols (a ∷ []) h = let x : a < 256 = h 0 in (at (a / 4) (omega arith), (at (a % 4 * 16) (omega arith), tt))
  none-symbols (a ∷ b ∷ []) h =
      let x : a < 256 = h 0 in
      let y : b < 256 = h 1 in
      (at (a / 4) (omega arith), (at (a % 4 * 16 + b / 16) (omega arith), (at (b % 16 * 4) (omega arith), tt)))
  none-symbols (a ∷ b ∷ c ∷ rest) h =
      let x : a < 256 = h 0 in
      let y : b < 256 = h 1 in
      let z : c < 256 = h 2 in (
        at (a / 4) (omega arith),
        (
          at (a % 4 * 16 + b / 16) (omega arith),
          (at (b % 16 * 4 + c / 64) (omega arith), (at (c % 64) (omega arith), none-symbols rest (λ k. h (suc (suc (suc k)))))),
        ),
      )

  none-padding : (pad : ℕ) → p pad ≡ false → (n : ℕ) → NonePass p (replicate n pad)
  none-padding pad h zero = tt
  none-padding pad h (suc n) = (h, none-padding pad h n)

  none-encode : (bytes : List ℕ) → IsBytes bytes → p 61 ≡ false → NonePass p (encode t 61 true bytes)
  none-encode bytes h pad =
      none-append p (encode_symbols t bytes) (replicate (padding_len (length bytes)) 61) (none-symbols bytes h)
      (none-padding 61 pad (padding_len (length bytes)))

no_symbol : list_any (is_escaped true) (engine_symbols standard) ≡ false
unfolding is_hidden
no_symbol = refl

no_padding : is_escaped true 61 ≡ false
unfolding is_hidden
no_padding = refl

no_colon : is_escaped true 58 ≡ false
unfolding is_hidden
no_colon = refl

none-base64 : (bytes : List ℕ) → IsBytes bytes → NonePass (is_escaped true) (encode_of standard bytes)
none-base64 bytes h =
    none-encode (is_escaped true) (engine_symbols standard) (λ i below. none_at (is_escaped true) (engine_symbols standard) no_symbol i below) bytes h no_padding

behind_ascii : (bytes : List ℕ) → IsAscii (58 ∷ encode_of standard bytes)
behind_ascii bytes = IsAscii-cons 58 (encode_of standard bytes) (omega arith) (IsAscii-encode_of standard bytes)

behind_same : (bytes : List ℕ) → IsBytes bytes → escaped true (58 ∷ encode_of standard bytes) ≡ 58 ∷ encode_of standard bytes
behind_same bytes h =
    escaped_same true (58 ∷ encode_of standard bytes) (IsUtf8-from_ascii (58 ∷ encode_of standard bytes) (behind_ascii bytes))
    (rw (chars-IsAscii (58 ∷ encode_of standard bytes) (behind_ascii bytes)) (no_colon, none-base64 bytes h))

-- a key's or a signature's text as a printed word: its base64 is printed as itself
pub named_printed : (name bytes : List ℕ) → IsUtf8 name → IsBytes bytes
    → escaped true name ++ ((58 ∷ []) ++ encode_of standard bytes) ≡ named_word (record { name = name; bytes = bytes })
named_printed name bytes u h =
    ap (λ (l : List ℕ). escaped true name ++ l) (sym (behind_same bytes h))
    ∙ sym (escaped-append true name (58 ∷ encode_of standard bytes) u)

-- a text of a name that is UTF-8 is UTF-8
pub named_utf8 : (t : NamedBytes) → IsUtf8 t.name → IsUtf8 (named_bytes_text t)
named_utf8 t u = IsUtf8-append t.name (58 ∷ encode_of standard t.bytes) u (IsUtf8-from_ascii (58 ∷ encode_of standard t.bytes) (behind_ascii t.bytes))
