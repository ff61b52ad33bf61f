-- What the standard library's parse answers is what the text says.
use Rattle.std.specs.Prelude.{ℕ, ◌≡◌, ◌<◌, ◌^◌, ◌&&◌, nat_lt, Bool, true, false, if◌then◌else◌, List, [], ◌∷◌, length, Option, Some, None, Result, Ok, Err, MatchResult, refl}
use Rattle.std.specs.List.{list_all}
use Rattle.std.specs.Cmp.{first_so, second_so}
use Rattle.std.specs.Char.{digit_value}
use Rattle.std.specs.Str.Parse.{AllDigits, IsNumeral, ParsesUnsigned, digits_value, without_leading_plus}
use Rattle.std.proofs.Common.{sym, arith}
use Rattle.warg_crypto.specs.declared.json.error.JsonError.TheVariants as fault
use Rattle.warg_crypto.specs.Time.TimeText.{below, time_with_carry, is_numeral, number_of, time_sides}
use Rattle.warg_crypto.specs.Time.TimeTextLaws.{below_numeral}

all_from : (ds : List ℕ) → list_all (λ c. nat_lt (digit_value c) 10) ds ≡ true → AllDigits 10 ds
all_from [] h = tt
all_from (c ∷ cs) h = (grind (arith, first_so (nat_lt (digit_value c) 10) _ h), all_from cs (second_so (nat_lt (digit_value c) 10) _ h))

below_none : (bound : ℕ) (ds : List ℕ) → ¬ (IsNumeral 10 ds × (digits_value 10 ds < bound)) → below bound ds ≡ None
below_none bound ds no_way = by (is_numeral ds && nat_lt (digits_value 10 ds) bound) refl
  where
    by : (b : Bool) → (is_numeral ds && nat_lt (digits_value 10 ds) bound) ≡ b → (if b then Some (digits_value 10 ds) else None) ≡ None
    by false e = refl
    by true e =
        let own = first_so (is_numeral ds) _ e in
        let some : 0 < length ds = grind (arith, first_so (nat_lt 0 (length ds)) _ own) in
        let fits : digits_value 10 ds < bound = grind (arith, second_so (is_numeral ds) _ e) in
        absurd (no_way ((some, all_from ds (second_so (nat_lt 0 (length ds)) _ own)), fits))

-- what parse answers is what the text says
pub number_of-parsed : {E : Type 0} (k : ℕ) (bs : List ℕ) (r : Result ℕ E) → ParsesUnsigned k 10 bs r
    → MatchResult r (λ n. number_of (2 ^ k) bs ≡ Some n) (λ _. number_of (2 ^ k) bs ≡ None)
number_of-parsed k bs (Ok n) h = below_numeral (2 ^ k) n (without_leading_plus bs) h.0.0 (sym h.1) (omega (arith, h.0.1, h.1))
number_of-parsed k bs (Err e) h = below_none (2 ^ k) (without_leading_plus bs) h

pub left_bad : (l r : Option ℕ) → l ≡ None → time_sides l r ≡ Err fault.BadText
left_bad l r e = rw e refl

pub right_bad : (l r : Option ℕ) (s : ℕ) → l ≡ Some s → r ≡ None → time_sides l r ≡ Err fault.BadText
right_bad l r s e f = rw (e, f) refl

pub sides_read : (l r : Option ℕ) (s n : ℕ) → l ≡ Some s → r ≡ Some n → time_sides l r ≡ time_with_carry s n
sides_read l r s n e f = rw (e, f) refl
