-- Plain texts, put together, and that no hidden character stands in them.
use Rattle.std.proofs.Common.{◌≡◌, ℕ, ◌≤◌, ◌<◌, Bool, true, false, ◌&&◌, nat_le, List, [], ◌∷◌, ◌++◌, length, slice_index, zero, suc, refl, arith}
use Rattle.std.specs.List.{list_all}
use Rattle.std.specs.Str.{NonePass}
use Rattle.std.proofs.lemmas.Bool.{lt-leb}
use Rattle.std.proofs.lemmas.Bool.Decides.{nat_tests}
use Rattle.warg_printable.specs.Characters.{is_hidden}
use Rattle.warg_printable.specs.Printable.{IsPrintable}
use Rattle.warg_printable.proofs.CharacterLemmas.{ascii_shown}
use Rattle.warg_printable.proofs.ShownLemmas.{encodes-ascii}
use Rattle.tool_laws.specs.Plain.Plain.{is_plain, is_sign}

pub and_first : (a b : Bool) → (a && b) ≡ true → a ≡ true
and_first true b e = refl
and_first false b e = cc e

pub and_then : (a b : Bool) → (a && b) ≡ true → b ≡ true
and_then true b e = e
and_then false b e = cc e

pub and_both : (a b : Bool) → a ≡ true → b ≡ true → (a && b) ≡ true
and_both a b x y = rw (x, y) refl

-- ---- characters

sign_bounds : (c : ℕ) → is_sign c ≡ true → (32 ≤ c) × (c < 127)
sign_bounds c h = (grind (arith, nat_tests), grind (arith, nat_tests))

sign_shown : (c : ℕ) → is_sign c ≡ true → is_hidden c ≡ false
sign_shown c h = let b = sign_bounds c h in ascii_shown c b.0 b.1

sign_ascii : (c : ℕ) → is_sign c ≡ true → nat_le 128 c ≡ false
sign_ascii c h = let b = sign_bounds c h in let low : c < 127 = b.1 in lt-leb 128 c (omega arith)

pub sign_from : (c : ℕ) → 32 ≤ c → c < 127 → is_sign c ≡ true
sign_from c low high = grind (arith, nat_tests)

-- ---- texts

-- where every element of a list passes a test
pub all_at : (p : ℕ → Bool) (xs : List ℕ) → list_all p xs ≡ true → (k : ℕ) → k < length xs → p (slice_index xs k) ≡ true
all_at p [] h k below = absurd (omega arith)
all_at p (x ∷ xs) h zero below = and_first (p x) (list_all p xs) h
all_at p (x ∷ xs) h (suc k) below = all_at p xs (and_then (p x) (list_all p xs) h) k (omega arith)

-- a byte in front of a plain text
pub plain_cons : (b : ℕ) (text : List ℕ) → is_sign b ≡ true → is_plain text ≡ true → is_plain (b ∷ text) ≡ true
plain_cons b text x y = and_both (is_sign b) (is_plain text) x y

-- a plain text behind another
pub plain_append : (a b : List ℕ) → is_plain a ≡ true → is_plain b ≡ true → is_plain (a ++ b) ≡ true
plain_append [] b x y = y
plain_append (c ∷ a) b x y =
    plain_cons c (a ++ b) (and_first (is_sign c) (is_plain a) x) (plain_append a b (and_then (is_sign c) (is_plain a) x) y)

none_hidden : (text : List ℕ) → is_plain text ≡ true → NonePass is_hidden text
none_hidden [] h = tt
none_hidden (c ∷ text) h =
    (sign_shown c (and_first (is_sign c) (is_plain text) h), none_hidden text (and_then (is_sign c) (is_plain text) h))

none_wide : (text : List ℕ) → is_plain text ≡ true → NonePass (λ c. nat_le 128 c) text
none_wide [] h = tt
none_wide (c ∷ text) h =
    (sign_ascii c (and_first (is_sign c) (is_plain text) h), none_wide text (and_then (is_sign c) (is_plain text) h))

-- no hidden character stands in a plain text
pub plain_shown : (text : List ℕ) → is_plain text ≡ true → IsPrintable text
plain_shown text h = (text, encodes-ascii text (none_wide text h), none_hidden text h)
