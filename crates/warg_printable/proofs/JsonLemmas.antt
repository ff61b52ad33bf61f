-- JSON as it is printed: what stands for characters, and for texts.
use Rattle.std.proofs.Common.{◌≡◌, ℕ, ◌+◌, ◌-◌, ◌/◌, ◌%◌, ◌<◌, ◌≤◌, Bool, true, false, nat_le, nat_lt, cond, List, [], ◌∷◌, ◌++◌, length, refl, sym, ap, ◌∙◌, arith, append_assoc, append-nil, encode_utf8, encode_utf8_all, chars, IsUtf8, flat_map}
use Rattle.std.proofs.lemmas.Bool.{le-ltb, lt-leb}
use Rattle.std.proofs.lemmas.Bool.Decides.{nat_tests}
use Rattle.std.proofs.lemmas.List.{nil_from_length}
use Rattle.std.proofs.lemmas.Str.{chars-nil, chars_past_char, encodes-append, encodes-chars, encodes_same}
use Rattle.std.specs.Char.{digit_char}
use Rattle.std.specs.Str.{NonePass}
use Rattle.warg_printable.specs.Characters.{is_hidden}
use Rattle.warg_printable.specs.Json.{json_char, json_escape, json_printable, unit_escape}
use Rattle.warg_printable.specs.Printable.{IsPrintable}
use Rattle.warg_printable.proofs.CharacterLemmas.{ascii_shown, none-append}
use Rattle.warg_printable.proofs.ShownLemmas.{encodes-ascii}

-- ---- escapes

digit_bounds : (d : ℕ) → d < 16 → (32 ≤ digit_char d) × (digit_char d < 127)
digit_bounds d h = (grind (arith, nat_tests), grind (arith, nat_tests))

-- a test that no printed sign of ASCII passes
module _ (p : ℕ → Bool) (signs : (c : ℕ) → 32 ≤ c → c < 127 → p c ≡ false) where
  digit_fails : (n : ℕ) → p (digit_char (n % 16)) ≡ false
  digit_fails n =
      let small : n % 16 < 16 = omega arith in
      let b = digit_bounds (n % 16) small in signs (digit_char (n % 16)) b.0 b.1

  none-unit : (n : ℕ) → NonePass p (unit_escape n)
  none-unit n = (
    signs 92 (omega arith) (omega arith),
    (
      signs 117 (omega arith) (omega arith),
      (digit_fails (n / 0x1000), (digit_fails (n / 0x100), (digit_fails (n / 0x10), (digit_fails n, tt)))),
    ),
  )

  none-either : (b : Bool) (c high low : ℕ) → NonePass p (cond b (unit_escape c) (unit_escape high ++ unit_escape low))
  none-either true c high low = none-unit c
  none-either false c high low = none-append p (unit_escape high) (unit_escape low) (none-unit high) (none-unit low)

  none-json_escape : (c : ℕ) → NonePass p (json_escape c)
  none-json_escape c = none-either (nat_lt c 0x1_0000) c (0xD800 + (c - 0x1_0000) / 0x400) (0xDC00 + (c - 0x1_0000) % 0x400)

below_ascii : (c : ℕ) → 32 ≤ c → c < 127 → nat_le 128 c ≡ false
below_ascii c low high = lt-leb 128 c (omega arith)

encodes-json_escape : (c : ℕ) → encode_utf8_all (json_escape c) ≡ json_escape c
encodes-json_escape c = encodes-ascii (json_escape c) (none-json_escape (λ d. nat_le 128 d) below_ascii c)

-- the two units of a pair, one behind the other
pub json_pair : (c : ℕ) (old middle new : List ℕ) → 0x1_0000 ≤ c → middle ≡ old ++ unit_escape (0xD800 + (c - 0x1_0000) / 0x400)
    → new ≡ middle ++ unit_escape (0xDC00 + (c - 0x1_0000) % 0x400) → new ≡ old ++ json_escape c
json_pair c old middle new large first second =
    let high : List ℕ = unit_escape (0xD800 + (c - 0x1_0000) / 0x400) in
    let low : List ℕ = unit_escape (0xDC00 + (c - 0x1_0000) % 0x400) in
    second ∙ ap (λ (l : List ℕ). l ++ low) first ∙ append_assoc old high low
    ∙ ap (λ b. old ++ cond b (unit_escape c) (high ++ low)) (sym (le-ltb c 0x1_0000 large))

-- ---- characters

chosen : (c : ℕ) (b : Bool) → is_hidden c ≡ b → json_char c ≡ cond b (json_escape c) (c ∷ [])
chosen c b e = ap (λ x. cond x (json_escape c) (c ∷ [])) e

-- a hidden character
pub json_hidden : (c : ℕ) → is_hidden c ≡ true → json_escape c ≡ encode_utf8_all (json_char c)
json_hidden c h = sym (ap encode_utf8_all (chosen c true h) ∙ encodes-json_escape c)

-- any other character
pub json_plain : (c : ℕ) → is_hidden c ≡ false → encode_utf8 c ≡ encode_utf8_all (json_char c)
json_plain c h = sym (ap encode_utf8_all (chosen c false h) ∙ append-nil (encode_utf8 c))

none-cases : (c : ℕ) (b : Bool) → is_hidden c ≡ b → NonePass is_hidden (cond b (json_escape c) (c ∷ []))
none-cases c true e = none-json_escape is_hidden ascii_shown c
none-cases c false e = (e, tt)

none-hidden : (cs : List ℕ) → NonePass is_hidden (flat_map json_char cs)
none-hidden [] = tt
none-hidden (c ∷ cs) =
    none-append is_hidden (json_char c) (flat_map json_char cs) (none-cases c (is_hidden c) refl) (none-hidden cs)

-- ---- texts

-- no hidden character stands in what is printed
pub json_shown : (text : List ℕ) → IsPrintable (json_printable text)
unfolding json_printable
json_shown text = (flat_map json_char (chars text), refl, none-hidden (chars text))

stays_all : (cs : List ℕ) → NonePass is_hidden cs → flat_map json_char cs ≡ cs
stays_all [] h = refl
stays_all (c ∷ cs) h =
    ap (λ (l : List ℕ). l ++ flat_map json_char cs) (chosen c false h.0) ∙ ap (λ (l : List ℕ). c ∷ l) (stays_all cs h.1)

-- a text with nothing to escape
pub json_same : (text : List ℕ) → IsUtf8 text → IsPrintable text → json_printable text ≡ text
unfolding json_printable
json_same text u h =
    let same : h.0 ≡ chars text = encodes_same h.0 (chars text) (h.1 ∙ sym (encodes-chars text u)) in
    let none : NonePass is_hidden (chars text) = rw same at h.2 in
    ap encode_utf8_all (stays_all (chars text) none) ∙ encodes-chars text u

-- a step over one character
pub json_step : (bs rest : List ℕ) (c : ℕ) → IsUtf8 bs → bs ≡ encode_utf8 c ++ rest
    → encode_utf8_all (json_char c) ++ json_printable rest ≡ json_printable bs
unfolding json_printable
json_step bs rest c u e =
    sym (ap (λ (cs : List ℕ). encode_utf8_all (flat_map json_char cs)) (chars_past_char bs rest c u e)
    ∙ encodes-append (json_char c) (flat_map json_char (chars rest)))

-- nothing is printed of an empty text
pub json_empty : (bs : List ℕ) → length bs ≡ 0 → json_printable bs ≡ []
unfolding json_printable
json_empty bs h =
    ap (λ (l : List ℕ). encode_utf8_all (flat_map json_char (chars l))) (nil_from_length bs h)
    ∙ ap (λ (cs : List ℕ). encode_utf8_all (flat_map json_char cs)) chars-nil

-- one character more
pub json_more : (done bs rest new whole : List ℕ) (c : ℕ) → IsUtf8 bs → bs ≡ encode_utf8 c ++ rest → new ≡ done ++ encode_utf8_all (json_char c)
    → done ++ json_printable bs ≡ whole → new ++ json_printable rest ≡ whole
json_more done bs rest new whole c u parts more so_far =
    ap (λ (l : List ℕ). l ++ json_printable rest) more
    ∙ append_assoc done (encode_utf8_all (json_char c)) (json_printable rest)
    ∙ ap (λ (l : List ℕ). done ++ l) (json_step bs rest c u parts)
    ∙ so_far
