-- The text of a time reads back as the time.
use Rattle.std.specs.Prelude.{ℕ, ◌≡◌, ◌<◌, ◌+◌, ◌/◌, ◌%◌, ◌^◌, ◌==◌, nat_lt, Bool, true, false, List, [], ◌∷◌, ◌++◌, take, drop, length, ℤ, pos, negsuc, Option, Some, Ok, refl}
use Rattle.std.specs.List.{list_all, list_any, before_first, after_first, position_or_len}
use Rattle.std.specs.Fmt.{decimal}
use Rattle.std.specs.Char.{digit_value}
use Rattle.std.specs.Str.Parse.{AllDigits, IsNumeral, digits_value, without_leading_plus}
use Rattle.std.proofs.Common.{◌∙◌, ap, arith, length-append}
use Rattle.std.proofs.lemmas.Fmt.{decimal_is_IsNumeral}
use Rattle.std.proofs.Math.Seq.{take-append_seam, drop-append-add}
use Rattle.warg_crypto.specs.Json.JsonLaws.{ok_same}
use Rattle.warg_crypto.specs.Time.TimeText.{below, time_with_carry, is_dot, number_of, seconds_text, time_of, time_parts}

no_digit : (c : ℕ) → (digit_value c < 10) → is_dot c ≡ false
no_digit c h = by (c == 46) refl
  where
    by : (b : Bool) → (c == 46) ≡ b → (c == 46) ≡ false
    by false e = e
    by true e = absurd (grind (arith))

no_dot : (ds : List ℕ) → AllDigits 10 ds → list_any is_dot ds ≡ false
no_dot [] h = refl
no_dot (c ∷ cs) h = rw (no_digit c h.0) (no_dot cs h.1)

all_pass : (ds : List ℕ) → AllDigits 10 ds → list_all (λ c. nat_lt (digit_value c) 10) ds ≡ true
all_pass [] h = refl
all_pass (c ∷ cs) h = grind (arith, all_pass cs h.1, h.0)

-- the first dot stands after the digits
pub dot_after : (name rest : List ℕ) → list_any is_dot name ≡ false
    → position_or_len is_dot (name ++ 46 ∷ rest) ≡ length name
dot_after [] rest h = refl
dot_after (b ∷ name) rest h = grind (arith, dot_after name rest)

plus_free : (ds : List ℕ) → AllDigits 10 ds → without_leading_plus ds ≡ ds
plus_free [] h = refl
plus_free (c ∷ cs) h = rw (no_plus c h.0) refl
  where
    no_plus : (c : ℕ) → (digit_value c < 10) → (c == 43) ≡ false
    no_plus c h = by (c == 43) refl
      where
        by : (b : Bool) → (c == 43) ≡ b → (c == 43) ≡ false
        by false e = e
        by true e = absurd (grind (arith))

-- the digits of a number below the bound say that number
pub below_numeral : (bound n : ℕ) (ds : List ℕ) → IsNumeral 10 ds → digits_value 10 ds ≡ n → n < bound
    → below bound ds ≡ Some n
below_numeral bound n ds own is fits = grind (arith, own.0, all_pass ds own.1, is)

-- a number below the bound reads back from its decimal digits
pub number_of-decimal : (bound n : ℕ) → n < bound → n < 2 ^ 64 → number_of bound (decimal n) ≡ Some n
number_of-decimal bound n fits small =
    let own = decimal_is_IsNumeral n small in
    rw (plus_free (decimal n) own.0.1) (below_numeral bound n (decimal n) own.0 own.1 fits)

time_with_carry_small : (s n : ℕ) → s < 2 ^ 63 → n < 1_000_000_000 → time_with_carry s n ≡ Ok (record { seconds = pos s; nanos = n })
time_with_carry_small s n fits small =
    let none : n / 1_000_000_000 ≡ 0 = omega arith in
    let all : n % 1_000_000_000 ≡ n = omega arith in
    rw (none, all) (grind (arith))

parts_read : (no_dot : Bool) (l r : Option ℕ) (s n : ℕ) → no_dot ≡ false → l ≡ Some s → r ≡ Some n → s < 2 ^ 63
    → n < 1_000_000_000
    → time_parts no_dot l r ≡ Ok (record { seconds = pos s; nanos = n })
parts_read no_dot l r s n d e f fits small = rw (d, e, f) (time_with_carry_small s n fits small)

inside : (len : ℕ) (text name : List ℕ) (p : ℕ) → p ≡ length name → length text ≡ length name + (len + 1)
    → (p == length text) ≡ false
inside len text name p e l = grind (arith)

-- the text of seconds since the epoch and nanoseconds reads back as their time
pub time_of-text : (s n : ℕ) → s < 2 ^ 63 → n < 1_000_000_000
    → time_of (decimal s ++ 46 ∷ decimal n) ≡ Ok (record { seconds = pos s; nanos = n })
time_of-text s n fits small =
    let text = decimal s ++ 46 ∷ decimal n in
    let own = decimal_is_IsNumeral s (omega arith) in
    let at : position_or_len is_dot text ≡ length (decimal s) = dot_after (decimal s) (decimal n) (no_dot (decimal s) own.0.1) in
    let long : length text ≡ length (decimal s) + (length (decimal n) + 1) = omega (arith, length-append (decimal s) (46 ∷ decimal n)) in
    let front : before_first is_dot text ≡ decimal s = ap (λ (k : ℕ). take k text) at ∙ take-append_seam (decimal s) (46 ∷ decimal n) in
    let back : after_first is_dot text ≡ decimal n = ap (λ (k : ℕ). drop (k + 1) text) at ∙ drop-append-add (decimal s) (46 ∷ decimal n) 1 in
    parts_read _ _ _ s n (inside (length (decimal n)) text (decimal s) _ at long)
    (ap (number_of (2 ^ 64)) front ∙ number_of-decimal (2 ^ 64) s (omega arith) (omega arith))
    (ap (number_of (2 ^ 32)) back ∙ number_of-decimal (2 ^ 32) n (omega arith) (omega arith))
    fits small

-- the text of a time, where it has one, reads back as the time
pub time_of-seconds_text : (z : ℤ) (n : ℕ) (text : List ℕ) → n < 1_000_000_000 → ((s : ℕ) → z ≡ pos s → s < 2 ^ 63)
    → seconds_text z n ≡ Ok text
    → time_of text ≡ Ok (record { seconds = z; nanos = n })
time_of-seconds_text (pos s) n text small fits e = rw (← ok_same _ _ e) (time_of-text s n (fits s refl) small)
time_of-seconds_text (negsuc s) n text small fits e = cc e
