-- What stands for characters, and for texts.
use Rattle.std.proofs.Common.{◌≡◌, ◌≢◌, ℕ, ◌==◌, ◌<◌, ◌≤◌, Bool, true, false, nat_le, cond, List, [], ◌∷◌, ◌++◌, length, get_or, refl, sym, ap, ◌∙◌, arith, append-nil, append_assoc, encode_utf8, encode_utf8_all, chars, IsUtf8, flat_map}
use Rattle.std.proofs.lemmas.Bool.{leb-false, lt-leb}
use Rattle.std.proofs.lemmas.List.{nil_from_length}
use Rattle.std.proofs.lemmas.Str.{NoCharPasses-byte, chars-append, chars-nil, chars_past_char, encode_ascii, encodes-append, encodes-chars}
use Rattle.std.specs.Str.{NoCharPasses, NonePass}
use Rattle.warg_printable.specs.Characters.{backslash, is_hidden, number_escape}
use Rattle.warg_printable.specs.Printable.{escaped, is_escaped, is_numbered, shown_char}
use Rattle.warg_printable.proofs.CharacterLemmas.{ascii_shown, glyph_ascii, glyph_no_blank, glyph_shown, none-append, none-escape, or_left_false, or_right_false, shown_bounds}

-- ---- characters

pub encodes-ascii : (cs : List ℕ) → NonePass (λ c. nat_le 128 c) cs → encode_utf8_all cs ≡ cs
encodes-ascii [] h = refl
encodes-ascii (c ∷ cs) h =
    let small : c < 128 = leb-false 128 c h.0 in rw (encode_ascii c small, encodes-ascii cs h.1) refl

escape_ascii : (c : ℕ) → NonePass (λ d. nat_le 128 d) (number_escape c)
escape_ascii c = none-escape (λ d. nat_le 128 d) (λ d h. lt-leb 128 _ (glyph_ascii d h)) refl refl refl refl c

encodes-number : (c : ℕ) → encode_utf8_all (number_escape c) ≡ number_escape c
encodes-number c = encodes-ascii (number_escape c) (escape_ascii c)

module _ (spaces : Bool) where
  -- a character that is written by its number
  pub shown-number : (c : ℕ) → is_numbered spaces c ≡ true → number_escape c ≡ encode_utf8_all (shown_char spaces c)
  shown-number c h = sym (ap (λ b. encode_utf8_all (cond b (number_escape c) (cond (c == backslash) (backslash ∷ backslash ∷ []) (c ∷ [])))) h ∙ encodes-number c)

  chosen : (c : ℕ) (a b : Bool) → is_numbered spaces c ≡ a → (c == backslash) ≡ b
      → shown_char spaces c ≡ cond a (number_escape c) (cond b (backslash ∷ backslash ∷ []) (c ∷ []))
  chosen c a b e f = ap (λ x. cond x (number_escape c) (cond (c == backslash) (backslash ∷ backslash ∷ []) (c ∷ []))) e
      ∙ ap (λ x. cond a (number_escape c) (cond x (backslash ∷ backslash ∷ []) (c ∷ []))) f

  two : encode_utf8_all (backslash ∷ backslash ∷ []) ≡ backslash ∷ backslash ∷ []
  two = encodes-ascii (backslash ∷ backslash ∷ []) (refl, (refl, tt))

  -- a backslash
  pub shown-backslash : (c : ℕ) → is_numbered spaces c ≡ false → (c == backslash) ≡ true
      → backslash ∷ backslash ∷ [] ≡ encode_utf8_all (shown_char spaces c)
  shown-backslash c h e = sym (ap encode_utf8_all (chosen c false true h e) ∙ two)

  -- any other character
  pub shown-plain : (c : ℕ) → is_numbered spaces c ≡ false → (c == backslash) ≡ false
      → encode_utf8 c ≡ encode_utf8_all (shown_char spaces c)
  shown-plain c h e = sym (ap encode_utf8_all (chosen c false false h e) ∙ append-nil (encode_utf8 c))

  module _ (p : ℕ → Bool) (escape : (c : ℕ) → NonePass p (number_escape c)) (slash : p backslash ≡ false) where
    none-cases : (c : ℕ) → (is_numbered spaces c ≡ false → p c ≡ false) → (a b : Bool) → is_numbered spaces c ≡ a
        → NonePass p (cond a (number_escape c) (cond b (backslash ∷ backslash ∷ []) (c ∷ [])))
    none-cases c own true b e = escape c
    none-cases c own false true e = (slash, (slash, tt))
    none-cases c own false false e = (own e, tt)

    -- what stands for a character does not pass a test that the signs of escapes do not pass
    pub none-shown : (c : ℕ) → (is_numbered spaces c ≡ false → p c ≡ false) → NonePass p (shown_char spaces c)
    none-shown c own = none-cases c own (is_numbered spaces c) (c == backslash) refl

  escape_shown : (c : ℕ) → NonePass is_hidden (number_escape c)
  escape_shown c =
      none-escape is_hidden glyph_shown (ascii_shown 92 (omega arith) (omega arith)) (ascii_shown 117 (omega arith) (omega arith))
      (ascii_shown 123 (omega arith) (omega arith)) (ascii_shown 125 (omega arith) (omega arith)) c

  none-hidden : (cs : List ℕ) → NonePass is_hidden (flat_map (shown_char spaces) cs)
  none-hidden [] = tt
  none-hidden (c ∷ cs) =
      none-append is_hidden (shown_char spaces c) (flat_map (shown_char spaces) cs)
      (none-shown is_hidden escape_shown (ascii_shown 92 (omega arith) (omega arith)) c (λ h. or_left_false (is_hidden c) _ h)) (none-hidden cs)

  -- ---- texts

  -- no hidden character stands in what is printed
  pub escaped_shown : (text : List ℕ) → NoCharPasses is_hidden (escaped spaces text)
  unfolding escaped
  escaped_shown text = (flat_map (shown_char spaces) (chars text), refl, none-hidden (chars text))

  -- a step over one character
  pub escaped_step : (bs rest : List ℕ) (c : ℕ) → IsUtf8 bs → bs ≡ encode_utf8 c ++ rest
      → encode_utf8_all (shown_char spaces c) ++ escaped spaces rest ≡ escaped spaces bs
  unfolding escaped
  escaped_step bs rest c u e =
      sym (ap (λ (cs : List ℕ). encode_utf8_all (flat_map (shown_char spaces) cs)) (chars_past_char bs rest c u e)
      ∙ encodes-append (shown_char spaces c) (flat_map (shown_char spaces) (chars rest)))

  -- nothing is printed of an empty text
  pub escaped_empty : (bs : List ℕ) → length bs ≡ 0 → escaped spaces bs ≡ []
  unfolding escaped
  escaped_empty bs h =
      ap (λ (l : List ℕ). encode_utf8_all (flat_map (shown_char spaces) (chars l))) (nil_from_length bs h)
      ∙ ap (λ (cs : List ℕ). encode_utf8_all (flat_map (shown_char spaces) cs)) chars-nil

  shown_all-append : (xs ys : List ℕ) → flat_map (shown_char spaces) (xs ++ ys) ≡ flat_map (shown_char spaces) xs ++ flat_map (shown_char spaces) ys
  shown_all-append [] ys = refl
  shown_all-append (x ∷ xs) ys =
      ap (λ (l : List ℕ). shown_char spaces x ++ l) (shown_all-append xs ys)
      ∙ sym (append_assoc (shown_char spaces x) (flat_map (shown_char spaces) xs) (flat_map (shown_char spaces) ys))

  -- a text behind another
  pub escaped-append : (a b : List ℕ) → IsUtf8 a → escaped spaces (a ++ b) ≡ escaped spaces a ++ escaped spaces b
  unfolding escaped
  escaped-append a b u =
      ap (λ (cs : List ℕ). encode_utf8_all (flat_map (shown_char spaces) cs)) (chars-append a b u)
      ∙ ap encode_utf8_all (shown_all-append (chars a) (chars b))
      ∙ encodes-append (flat_map (shown_char spaces) (chars a)) (flat_map (shown_char spaces) (chars b))

  stays_all : (cs : List ℕ) → NonePass (is_escaped spaces) cs → flat_map (shown_char spaces) cs ≡ cs
  stays_all [] h = refl
  stays_all (c ∷ cs) h =
      ap (λ (l : List ℕ). l ++ flat_map (shown_char spaces) cs)
      (chosen c false false (or_left_false (is_numbered spaces c) _ h.0) (or_right_false (is_numbered spaces c) _ h.0))
      ∙ ap (λ (l : List ℕ). c ∷ l) (stays_all cs h.1)

  -- a text with nothing to escape
  pub escaped_same : (text : List ℕ) → IsUtf8 text → NonePass (is_escaped spaces) (chars text) → escaped spaces text ≡ text
  unfolding escaped
  escaped_same text u h = ap encode_utf8_all (stays_all (chars text) h) ∙ encodes-chars text u

-- ---- words

escape_no_blank : (c : ℕ) → NonePass (λ d. d == 32) (number_escape c)
escape_no_blank c = none-escape (λ d. d == 32) (λ d h. glyph_no_blank d h) refl refl refl refl c

no_blank : (cs : List ℕ) → NonePass (λ c. c == 32) (flat_map (shown_char true) cs)
no_blank [] = tt
no_blank (c ∷ cs) =
    none-append (λ d. d == 32) (shown_char true c) (flat_map (shown_char true) cs)
    (none-shown true (λ d. d == 32) escape_no_blank refl c (λ h. or_right_false (is_hidden c) (c == 32) h)) (no_blank cs)

-- no space stands in a text that is printed as a word
pub word_no_blank : (text : List ℕ) → NoCharPasses (λ c. c == 32) (escaped true text)
unfolding escaped
word_no_blank text = (flat_map (shown_char true) (chars text), refl, no_blank (chars text))

-- a byte of ASCII in a text with no hidden character
pub shown_byte : (text : List ℕ) → NoCharPasses is_hidden text → (k : ℕ) → k < length text → get_or text k 0 < 128
    → (32 ≤ get_or text k 0) × (get_or text k 0 ≢ 127)
shown_byte text h k inside small = shown_bounds (get_or text k 0) (NoCharPasses-byte is_hidden text k h inside small)
