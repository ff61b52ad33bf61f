-- Numbers of digits alone.
use Rattle.std.proofs.Common.{◌≡◌, ◌<◌, ◌^◌, ◌==◌, ℕ, Bool, true, false, List, [], ◌∷◌, length, Some, refl, sym, ap, ◌∙◌, arith, append-nil}
use Rattle.std.proofs.lemmas.Bool.{eqb-true, lt-ltb}
use Rattle.std.proofs.lemmas.Float.Parse.{scan_numeral-text_of}
use Rattle.std.specs.Char.{digit_value}
use Rattle.std.specs.Prelude.{slice_index}
use Rattle.std.specs.Str.Parse.{IsNumeral, digits_value}
use Rattle.fast_float.specs.Text.{IsWellFormed, Parts, scan}
use Rattle.serde_json.specs.Data.{unsigned}
use Rattle.serde_json.specs.Read.{number_from, number_of}

-- the parts of digits alone
abbrev digits_alone : List ℕ → Parts
digits_alone ds = record { whole = ds; point = false; fraction = []; exponent_negative = false; exponent = []; len = length ds }

well_formed : (ds : List ℕ) → IsNumeral 10 ds → IsWellFormed (digits_alone ds)
well_formed ds h = record {
  whole_digits = h.1;
  fraction_digits = tt;
  exponent_digits = tt;
  no_point = λ e. refl;
  no_exponent = λ e. refl;
  len_is = ap length (sym (append-nil ds));
}

scanned : (ds : List ℕ) → IsNumeral 10 ds → scan ds ≡ digits_alone ds
scanned ds h = sym (ap scan (append-nil ds)) ∙ scan_numeral-text_of (digits_alone ds) (well_formed ds h)

no_minus_by : (c : ℕ) (b : Bool) → (c == 45) ≡ b → digit_value c < 10 → (c == 45) ≡ false
no_minus_by c false e h = e
no_minus_by c true e h =
    let low : digit_value 45 < 10 = rw (eqb-true c 45 e) at h in
    absurd (omega arith)

no_minus : (ds : List ℕ) → IsNumeral 10 ds → (slice_index ds 0 == 45) ≡ false
no_minus [] h = absurd (omega (arith, h.0))
no_minus (c ∷ ds) h = no_minus_by c (c == 45) refl h.1.0

of_parts : (ds : List ℕ) → IsNumeral 10 ds → digits_value 10 ds < 2 ^ 64 → number_from false (digits_alone ds) ≡ Some (unsigned (digits_value 10 ds))
of_parts ds h low = rw (append-nil ds, lt-ltb 0 (length ds) h.0, lt-ltb (digits_value 10 ds) (2 ^ 64) low) refl

-- their number
pub short_number : (ds : List ℕ) → IsNumeral 10 ds → digits_value 10 ds < 2 ^ 64 → number_of ds ≡ Some (unsigned (digits_value 10 ds))
unfolding number_of
short_number ds h low = rw (no_minus ds h, scanned ds h) (of_parts ds h low)
