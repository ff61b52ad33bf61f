-- What is printed, as it is read back.
use Rattle.std.proofs.Common.{◌≡◌, ℕ, ◌+◌, ◌*◌, ◌^◌, ◌==◌, ◌<◌, ◌≤◌, Bool, true, false, not, ◌&&◌, cond, List, [], ◌∷◌, ◌++◌, length, Some, option_map, inl, inr, refl, sym, ap, ◌∙◌, arith, append_assoc, encode_utf8_all, chars, IsUtf8, flat_map}
use Rattle.std.proofs.lemmas.Bool.{eqb-true, lt-ltb}
use Rattle.std.proofs.lemmas.Fmt.{digits_is_IsNumeral}
use Rattle.std.proofs.lemmas.Str.{chars-encodes, encodes-chars, scalars-chars}
use Rattle.std.specs.Char.{digit_value, is_digit}
use Rattle.std.specs.Fmt.{digit_glyph, digits}
use Rattle.std.specs.Str.{NonePass, all_scalars}
use Rattle.std.specs.Str.Parse.{AllDigits, digits_value, digits_value_after}
use lib.Utf8.{scalar, scalar_cases, low_scalar}
use Rattle.warg_printable.specs.Back.{in_front, number_turn, digit_turn, read_from, read_on, unprintable}
use Rattle.warg_printable.specs.declared.read.Turn.{Turn}
use Rattle.warg_printable.specs.declared.read.Turn.TheVariants.{On, Said}
use Rattle.warg_printable.specs.declared.read.Within.TheVariants.{Plain, AfterBackslash, AfterBrace, InNumber}
use Rattle.warg_printable.specs.Characters.{backslash, number_escape}
use Rattle.warg_printable.specs.Printable.{escaped, is_numbered, shown_char}
use Rattle.warg_printable.proofs.CharacterLemmas.{glyph_ascii, none-append, none-escape}
use Rattle.warg_printable.proofs.ShownLemmas.{none-shown}

-- ---- numbers

digit_is : (d : ℕ) → digit_value d < 16 → is_digit d 16 ≡ true
digit_is d h = lt-ltb (digit_value d) 16 h

no_brace : (d : ℕ) (b : Bool) → (d == 125) ≡ b → digit_value d < 16 → b ≡ false
no_brace d true e h = let brace : d ≡ 125 = eqb-true d 125 e in absurd (let wide : digit_value 125 < 16 = rw brace at h in omega arith)
no_brace d false e h = refl

value_grows : (ds : List ℕ) (n : ℕ) → n ≤ digits_value_after 16 n ds
value_grows [] n = omega arith
value_grows (d ∷ ds) n = let more = value_grows ds (n * 16 + digit_value d) in omega arith

digit_step : (n d : ℕ) → is_digit d 16 ≡ true → n * 16 + digit_value d < 0x11_0000 → digit_turn n d ≡ On (InNumber (n * 16 + digit_value d))
digit_step n d h small = rw (h, lt-ltb (n * 16 + digit_value d) 0x11_0000 small) refl

choice : (b : Bool) (x y : Turn) → b ≡ false → cond b x y ≡ y
choice b x y e = rw e refl

digit_read : (n d : ℕ) (cs : List ℕ) → digit_value d < 16 → n * 16 + digit_value d < 0x11_0000
    → read_from (InNumber n) (d ∷ cs) ≡ read_from (InNumber (n * 16 + digit_value d)) cs
digit_read n d cs h small =
    ap (λ (t : Turn). read_on t (λ next. read_from next cs))
    (choice (d == 125) (number_turn n) (digit_turn n d) (no_brace d (d == 125) refl h) ∙ digit_step n d (digit_is d h) small)

number_said : (n : ℕ) → scalar n ≡ true → number_turn n ≡ Said n
number_said n h = rw h refl

read_digits : (ds : List ℕ) (n : ℕ) (rest : List ℕ) → AllDigits 16 ds → digits_value_after 16 n ds < 0x11_0000
    → scalar (digits_value_after 16 n ds) ≡ true
    → read_from (InNumber n) (ds ++ 125 ∷ rest) ≡ in_front (digits_value_after 16 n ds) (read_from Plain rest)
read_digits [] n rest h small is = ap (λ (t : Turn). read_on t (λ next. read_from next rest)) (number_said n is)
read_digits (d ∷ ds) n rest h small is =
    let grows = value_grows ds (n * 16 + digit_value d) in
    let fits : n * 16 + digit_value d < 0x11_0000 = omega arith in
    digit_read n d (ds ++ 125 ∷ rest) h.0 fits ∙ read_digits ds (n * 16 + digit_value d) rest h.1 small is

-- behind the brace stands a digit
read_braced : (ds : List ℕ) (rest : List ℕ) → 0 < length ds → AllDigits 16 ds → digits_value_after 16 0 ds < 0x11_0000
    → scalar (digits_value_after 16 0 ds) ≡ true
    → read_from AfterBrace (ds ++ 125 ∷ rest) ≡ in_front (digits_value_after 16 0 ds) (read_from Plain rest)
read_braced [] rest some h small is = absurd (omega arith)
read_braced (d ∷ ds) rest some h small is =
    let grows = value_grows ds (0 * 16 + digit_value d) in
    let fits : 0 * 16 + digit_value d < 0x11_0000 = omega arith in
    ap (λ (t : Turn). read_on t (λ next. read_from next (ds ++ 125 ∷ rest))) (digit_step 0 d (digit_is d h.0) fits)
    ∙ read_digits ds (0 * 16 + digit_value d) rest h.1 small is

below_all : (c : ℕ) → scalar c ≡ true → c < 0x11_0000
below_all c h = elim (scalar_cases c h) [
  | inl low ↦ omega arith
  | inr high ↦ let top : c < 1114112 = high.1 in omega arith
]

fits : (c : ℕ) → c < 0x11_0000 → c < 16 ^ 64
fits c h = omega arith

read_number : (c : ℕ) (rest : List ℕ) → scalar c ≡ true → read_from Plain (number_escape c ++ rest) ≡ in_front c (read_from Plain rest)
read_number c rest h =
    let small = below_all c h in
    let own = digits_is_IsNumeral 16 false (omega arith) (omega arith) c (fits c small) in
    let value : digits_value 16 (digits 16 false c) ≡ c = own.1 in
    ap (λ (l : List ℕ). read_from AfterBrace l) (append_assoc (digits 16 false c) (125 ∷ []) rest)
    ∙ read_braced (digits 16 false c) rest own.0.0 own.0.1 (rw value small) (rw value h)
    ∙ ap (λ n. in_front n (read_from Plain rest)) value

-- ---- characters

read_plain : (c : ℕ) (rest : List ℕ) → (c == backslash) ≡ false → read_from Plain (c ∷ rest) ≡ in_front c (read_from Plain rest)
read_plain c rest h = ap (λ (t : Turn). read_on t (λ next. read_from next rest)) (choice (c == backslash) (On AfterBackslash) (Said c) h)

read_cases : (c : ℕ) (rest : List ℕ) → scalar c ≡ true → (a b : Bool) → (c == backslash) ≡ b
    → read_from Plain (cond a (number_escape c) (cond b (backslash ∷ backslash ∷ []) (c ∷ [])) ++ rest) ≡ in_front c (read_from Plain rest)
read_cases c rest h true b e = read_number c rest h
read_cases c rest h false true e = ap (λ d. in_front d (read_from Plain rest)) (sym (eqb-true c backslash e))
read_cases c rest h false false e = read_plain c rest e

and_left : (a b : Bool) → (a && b) ≡ true → a ≡ true
and_left true b e = refl
and_left false b e = cc e

and_right : (a b : Bool) → (a && b) ≡ true → b ≡ true
and_right true b e = e
and_right false b e = cc e

-- ---- scalars

not_false : (b : Bool) → not b ≡ false → b ≡ true
not_false true e = refl
not_false false e = cc e

not_true : (b : Bool) → b ≡ true → not b ≡ false
not_true b e = rw e refl

scalars_from : (cs : List ℕ) → NonePass (λ c. not (scalar c)) cs → all_scalars cs ≡ true
scalars_from [] h = refl
scalars_from (c ∷ cs) h = rw (not_false (scalar c) h.0, scalars_from cs h.1) refl

escape_scalars : (c : ℕ) → NonePass (λ c. not (scalar c)) (number_escape c)
escape_scalars c =
    none-escape (λ c. not (scalar c)) (λ d h. let small : digit_glyph false d < 128 = glyph_ascii d h in not_true _ (low_scalar (digit_glyph false d) (omega arith))) refl refl refl refl c

module _ (spaces : Bool) where
  read_shown : (c : ℕ) (rest : List ℕ) → scalar c ≡ true → read_from Plain (shown_char spaces c ++ rest) ≡ in_front c (read_from Plain rest)
  read_shown c rest h = read_cases c rest h (is_numbered spaces c) (c == backslash) refl

  read_all : (cs : List ℕ) → all_scalars cs ≡ true → read_from Plain (flat_map (shown_char spaces) cs) ≡ Some cs
  read_all [] h = refl
  read_all (c ∷ cs) h =
      read_shown c (flat_map (shown_char spaces) cs) (and_left (scalar c) (all_scalars cs) h)
      ∙ ap (in_front c) (read_all cs (and_right (scalar c) (all_scalars cs) h))

  all_scalar : (cs : List ℕ) → all_scalars cs ≡ true → NonePass (λ c. not (scalar c)) (flat_map (shown_char spaces) cs)
  all_scalar [] h = tt
  all_scalar (c ∷ cs) h =
      none-append (λ c. not (scalar c)) (shown_char spaces c) (flat_map (shown_char spaces) cs)
      (none-shown spaces (λ c. not (scalar c)) escape_scalars refl c (λ _. not_true (scalar c) (and_left (scalar c) (all_scalars cs) h)))
      (all_scalar cs (and_right (scalar c) (all_scalars cs) h))

  shown_chars : (text : List ℕ) → IsUtf8 text → chars (escaped spaces text) ≡ flat_map (shown_char spaces) (chars text)
  unfolding escaped
  shown_chars text u =
      chars-encodes (flat_map (shown_char spaces) (chars text)) (scalars_from _ (all_scalar (chars text) (scalars-chars text u)))

  -- what is printed reads back
  pub unprintable-escaped : (text : List ℕ) → IsUtf8 text → unprintable (escaped spaces text) ≡ Some text
  unfolding unprintable
  unprintable-escaped text u =
      ap (λ (cs : List ℕ). option_map encode_utf8_all (read_from Plain cs)) (shown_chars text u)
      ∙ ap (option_map encode_utf8_all) (read_all (chars text) (scalars-chars text u))
      ∙ ap Some (encodes-chars text u)
