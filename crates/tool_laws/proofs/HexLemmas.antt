-- Hex digits without a NUL are those of bytes.
use Rattle.std.proofs.Common.{◌≡◌, ◌≢◌, ◌≤◌, ◌/◌, ◌%◌, ℕ, zero, suc, true, List, [], ◌∷◌, ◌++◌, length, slice_index, refl, arith, inl, inr}
use Rattle.std.specs.List.{list_all}
use Rattle.std.proofs.lemmas.Bool.{cases_lt}
use Rattle.hex.specs.Hex.{encode_lower, encode_with, lower_digits}
use Rattle.tool_laws.specs.Plain.Plain.{is_plain, is_sign}
use Rattle.tool_laws.proofs.PlainLemmas.PlainLemmas.{all_at, plain_cons}
use Rattle.tool_laws.specs.Premises.{HasNoNul}

pub front_no_nul : (a b : List ℕ) → HasNoNul (a ++ b) → HasNoNul a
front_no_nul [] b h = tt
front_no_nul (x ∷ a) b h = (h.0, front_no_nul a b h.1)

pub rest_no_nul : (a b : List ℕ) → HasNoNul (a ++ b) → HasNoNul b
rest_no_nul [] b h = h
rest_no_nul (x ∷ a) b h = rest_no_nul a b h.1

past : (xs : List ℕ) (k : ℕ) → length xs ≤ k → slice_index xs k ≡ 0
past [] k h = refl
past (x ∷ xs) zero h = absurd (omega arith)
past (x ∷ xs) (suc k) h = past xs k (omega arith)

digits_plain : list_all is_sign lower_digits ≡ true
digits_plain = refl

digit_plain : (d : ℕ) → slice_index lower_digits d ≢ 0 → is_sign (slice_index lower_digits d) ≡ true
digit_plain d h = elim (cases_lt d (length lower_digits)) [
  | inl below ↦ all_at is_sign lower_digits digits_plain d below
  | inr over ↦ absurd (h (past lower_digits d over))
]

pub hex_no_nul : (bytes : List ℕ) → HasNoNul (encode_lower bytes) → is_plain (encode_lower bytes) ≡ true
unfolding encode_with
hex_no_nul [] h = refl
hex_no_nul (b ∷ bytes) h =
    plain_cons (slice_index lower_digits (b / 16)) (slice_index lower_digits (b % 16) ∷ encode_lower bytes) (digit_plain (b / 16) h.0)
    (plain_cons (slice_index lower_digits (b % 16)) (encode_lower bytes) (digit_plain (b % 16) h.1.0) (hex_no_nul bytes h.1.1))
