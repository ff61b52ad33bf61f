-- What is written of a claim, as it is read.
use Rattle.std.proofs.Common.{◌≡◌, ◌<◌, ◌==◌, ◌+◌, ◌/◌, ◌%◌, ℕ, Bool, false, true, suc, None, Some, List, [], ◌∷◌, ◌++◌, length, take, drop, get_or, slice_index, Ok, Result, IsUtf8, refl, sym, ap, ◌∙◌, arith, append_assoc, length-append}
use Rattle.std.proofs.Math.Seq.{take-append_seam, drop-append-add}
use Rattle.std.specs.List.{after_first, before_first, list_any, position_or_len}
use Rattle.hex.specs.Hex.{IsBytes, decode_of, encode_lower, encode_with, hex_digit_value, lower_digits}
use Rattle.hex.proofs.HexLemmas.{IsDigits-lower_digits, decode_of-encode_lower}
use Rattle.std.specs.Str.{NoCharPasses}
use Rattle.std.proofs.lemmas.Bool.{eqb-true}
use Rattle.std.proofs.lemmas.List.{get_or_default}
use Rattle.std.proofs.lemmas.List.Folds.{list_any_none}
use Rattle.std.proofs.lemmas.Str.{NoCharPasses-append, NoCharPasses-byte}
use Rattle.hex.specs.declared.error.FromHexError.{FromHexError}
use Rattle.warg_crypto.specs.NamedBytes.{IsName, NamedBytes, named_bytes_text}
use Rattle.warg_crypto.specs.NamedBytesLaws.{public_key_of-named_bytes_text, signature_of-named_bytes_text}
use Rattle.warg_printable.specs.Characters.{is_hidden}
use Rattle.warg_printable.specs.Printable.{IsPrintable}
use Rattle.warg_printable.proofs.BackLemmas.{unprintable-escaped}
use Rattle.warg_printable.proofs.ShownLemmas.{escaped_same, escaped_shown, word_no_blank}
use Rattle.warg_claims.specs.Verified.Claims.{ClaimData, IsPlain, claim_text, named_word}
use Rattle.warg_claims.specs.Verified.Lines.{claim_of, claim_of_parts, is_space, printed_key_of, printed_signature_of}
use Rattle.warg_claims.specs.declared.verified.error.ClaimParseError.{ClaimParseError}
use Rattle.warg_claims.proofs.VerifiedLemmas.CutLemmas.{cut-line}
use Rattle.warg_claims.proofs.VerifiedLemmas.PartLemmas.{key_said, signature_said}
use Rattle.warg_claims.proofs.VerifiedLemmas.SymbolLemmas.{blank_and, hex_shown, named_utf8}

space_after : (front rest : List ℕ) → list_any is_space front ≡ false → position_or_len is_space (front ++ 32 ∷ rest) ≡ length front
space_after [] rest h = refl
space_after (b ∷ front) rest h = grind (arith, space_after front rest)

module _ (front rest : List ℕ) (none : list_any is_space front ≡ false) where
  -- the first space stands behind what has none
  pub before-space : before_first is_space (front ++ 32 ∷ rest) ≡ front
  before-space = ap (λ n. take n (front ++ 32 ∷ rest)) (space_after front rest none) ∙ take-append_seam front (32 ∷ rest)

  pub after-space : after_first is_space (front ++ 32 ∷ rest) ≡ rest
  after-space = ap (λ n. drop (n + 1) (front ++ 32 ∷ rest)) (space_after front rest none) ∙ drop-append-add front (32 ∷ rest) 1

  pub has-space : position_or_len is_space (front ++ 32 ∷ rest) < length (front ++ 32 ∷ rest)
  has-space = rw (space_after front rest none, length-append front (32 ∷ rest)) (omega arith)

false_from : (b : Bool) → (b ≡ true → ⊥) → b ≡ false
false_from true h = absurd (h refl)
false_from false h = refl

digit_no_space : (x d : ℕ) → hex_digit_value x ≡ Some d → is_space x ≡ false
digit_no_space x d h = false_from (is_space x) (λ e. let blank : x ≡ 32 = eqb-true x 32 e in let none : None ≡ Some d = rw blank at h in cc none)

-- hex digits have no space
no_space-encode : (bytes : List ℕ) → IsBytes bytes → list_any is_space (encode_lower bytes) ≡ false
unfolding encode_with
no_space-encode [] h = refl
no_space-encode (b ∷ bytes) h =
    let fits : b < 256 = h 0 in
    let high = digit_no_space (slice_index lower_digits (b / 16)) (b / 16) (IsDigits-lower_digits (b / 16) (omega arith)) in
    let low = digit_no_space (slice_index lower_digits (b % 16)) (b % 16) (IsDigits-lower_digits (b % 16) (omega arith)) in
    rw (high, low) (no_space-encode bytes (λ k. h (suc k)))

-- a text without a space has no such byte
no_space-word : (text : List ℕ) → NoCharPasses (λ c. c == 32) text → list_any is_space text ≡ false
no_space-word text h =
    list_any_none is_space text (λ k d below. false_from (is_space (get_or text k d)) (λ e.
    let same : get_or text k d ≡ get_or text k 0 = get_or_default text k d 0 below in
    let blank : get_or text k 0 ≡ 32 = sym same ∙ eqb-true (get_or text k d) 32 e in
    let fails : (get_or text k 0 == 32) ≡ false = NoCharPasses-byte (λ c. c == 32) text k h below (omega arith) in
    let no : true ≡ false = rw blank at fails in cc no))

three : (c : ClaimData) (key : Result NamedBytes ClaimParseError) (message : Result (List ℕ) FromHexError) (signature : Result NamedBytes ClaimParseError)
    → key ≡ Ok c.key → message ≡ Ok c.message → signature ≡ Ok c.signature → claim_of_parts key message signature ≡ Ok c
three c key message signature k m s = rw (k, m, s) refl

parts-read : (c : ClaimData) → IsName c.key.name → IsName c.signature.name → IsUtf8 c.key.name → IsUtf8 c.signature.name
    → IsBytes c.key.bytes → IsBytes c.message → IsBytes c.signature.bytes
    → claim_of_parts (printed_key_of (named_word c.key)) (decode_of (encode_lower c.message))
    (printed_signature_of (named_word c.signature)) ≡ Ok c
parts-read c key signature u v k m s =
    three c _ _ _
    (key_said (named_word c.key) (named_bytes_text c.key) c.key (unprintable-escaped true (named_bytes_text c.key) (named_utf8 c.key u))
    (public_key_of-named_bytes_text c.key key k))
    (decode_of-encode_lower c.message m)
    (signature_said (named_word c.signature) (named_bytes_text c.signature) c.signature
    (unprintable-escaped true (named_bytes_text c.signature) (named_utf8 c.signature v)) (signature_of-named_bytes_text c.signature signature s))

-- the line of a claim
pub claim_of-claim_text : (c : ClaimData) → IsName c.key.name → IsName c.signature.name → IsUtf8 c.key.name → IsUtf8 c.signature.name
    → IsBytes c.key.bytes → IsBytes c.message → IsBytes c.signature.bytes → claim_of (claim_text c) ≡ Ok c
claim_of-claim_text c key signature u v k m s =
    let word = named_word c.key in
    let last = named_word c.signature in
    let behind = encode_lower c.message ++ 32 ∷ last in
    let line = word ++ 32 ∷ behind in
    let none = no_space-word word (word_no_blank (named_bytes_text c.key)) in
    let digits = no_space-encode c.message m in
    ap claim_of (append_assoc word (32 ∷ encode_lower c.message) (32 ∷ last))
    ∙ cut-line line word behind (encode_lower c.message) last
    (sym (before-space word behind none)) (sym (after-space word behind none)) (has-space word behind none)
    (sym (before-space (encode_lower c.message) last digits)) (sym (after-space (encode_lower c.message) last digits))
    (has-space (encode_lower c.message) last digits)
    ∙ parts-read c key signature u v k m s

-- no hidden character stands in the line
pub claim_shown : (c : ClaimData) → IsBytes c.message → IsPrintable (claim_text c)
claim_shown c m =
    let word = named_word c.key in
    let last = named_word c.signature in
    NoCharPasses-append is_hidden (word ++ 32 ∷ encode_lower c.message) (32 ∷ last)
    (NoCharPasses-append is_hidden word (32 ∷ encode_lower c.message) (escaped_shown true (named_bytes_text c.key)) (hex_shown c.message m))
    (blank_and last (escaped_shown true (named_bytes_text c.signature)))

-- the line where nothing is to be escaped
pub claim_plain : (c : ClaimData) → IsPlain c.key → IsPlain c.signature
    → claim_text c ≡ named_bytes_text c.key ++ 32 ∷ encode_lower c.message ++ 32 ∷ named_bytes_text c.signature
claim_plain c key signature =
    ap (λ (l : List ℕ). l ++ 32 ∷ encode_lower c.message ++ 32 ∷ named_word c.signature)
    (escaped_same true (named_bytes_text c.key) (named_utf8 c.key key.0) key.1)
    ∙ ap (λ (l : List ℕ). named_bytes_text c.key ++ 32 ∷ encode_lower c.message ++ 32 ∷ l)
    (escaped_same true (named_bytes_text c.signature) (named_utf8 c.signature signature.0) signature.1)
