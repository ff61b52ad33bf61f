-- Texts of digests.
use Rattle.std.proofs.Common.{◌≡◌, ℕ, ◌<◌, ◌≤◌, Bool, true, false, cond, ◌&&◌, nat_lt, List, ◌∷◌, ◌++◌, length, get_or, refl, ap, ◌∙◌, arith, codes, Some, None}
use Rattle.std.specs.Prelude.{◌==◌}
use Rattle.std.specs.List.{after_first, before_first, list_all, position_or_len}
use Rattle.std.specs.Str.{IsCharBoundary, bytes_eq}
use Rattle.std.proofs.lemmas.Bool.Decides.{Decides-eqb, Decides-ltb, nat_tests}
use Rattle.std.proofs.lemmas.List.Sums.{AllPass-from_list_all, passes_at_first, split_at_first}
use Rattle.std.proofs.lemmas.Slice.Eq.{bytes_eq-Decides}
use Rattle.std.proofs.lemmas.Str.{IsCharBoundary-before_ascii}
use Rattle.warg_crypto.specs.HashText.{is_colon}
use Rattle.tool_layout.specs.Digests.{are_digits, are_digits_there, is_digest, is_hex_digit}

pub and_left : (a b : Bool) → (a && b) ≡ true → a ≡ true
and_left true b e = refl
and_left false b e = cc e

pub and_right : (a b : Bool) → (a && b) ≡ true → b ≡ true
and_right true b e = e
and_right false b e = cc e

-- what tests of numbers say
pub below_of : (a b : ℕ) → nat_lt a b ≡ true → a < b
below_of a b e = (Decides-ltb a b).0 e

pub same_of : (a b : ℕ) → (a == b) ≡ true → a ≡ b
same_of a b e = (Decides-eqb a b).0 e

-- a hex digit is a sign of ASCII
pub hex_bounds : (b : ℕ) → is_hex_digit b ≡ true → (32 ≤ b) × (b < 127)
hex_bounds b e = (grind (arith, nat_tests), grind (arith, nat_tests))

-- a digest is `sha256:` and its digits
pub record IsDigest (text : List ℕ) : Type 0 where
  pub digits : List ℕ
  pub whole : text ≡ codes "sha256" ++ 58 ∷ digits
  pub count : length digits ≡ 64
  pub all : list_all is_hex_digit digits ≡ true

there : (b : Bool) (digits : List ℕ) → are_digits_there (cond b (Some digits) None) ≡ true → (b ≡ true) × (are_digits digits ≡ true)
there true digits h = (refl, h)
there false digits h = cc h

pub digest_parts : (text : List ℕ) → is_digest text ≡ true → IsDigest text
digest_parts text h =
    let at = position_or_len is_colon text in
    let name : List ℕ = before_first is_colon text in
    let digits : List ℕ = after_first is_colon text in
    let both = there (nat_lt at (length text) && bytes_eq name (codes "sha256")) digits h in
    let found : nat_lt at (length text) ≡ true = and_left (nat_lt at (length text)) (bytes_eq name (codes "sha256")) both.0 in
    let below : at < length text = below_of at (length text) found in
    let named : name ≡ codes "sha256" = (bytes_eq-Decides name (codes "sha256")).0 (and_right (nat_lt at (length text)) (bytes_eq name (codes "sha256")) both.0) in
    let colon : is_colon (get_or text at 0) ≡ true = passes_at_first is_colon text 0 below in
    let is : get_or text at 0 ≡ 58 = same_of (get_or text at 0) 58 colon in
    let counted : (length digits == 64) ≡ true = and_left (length digits == 64) (list_all is_hex_digit digits) both.1 in
    record {
      digits = digits;
      whole = split_at_first is_colon text 0 below ∙ ap (λ (front : List ℕ). front ++ (get_or text at 0 ∷ digits)) named ∙ ap (λ (b : ℕ). codes "sha256" ++ (b ∷ digits)) is;
      count = same_of (length digits) 64 counted;
      all = and_right (length digits == 64) (list_all is_hex_digit digits) both.1;
    }

pub digest_length : (text : List ℕ) → is_digest text ≡ true → length text ≡ 71
digest_length text h =
    let parts = digest_parts text h in
    let whole = ap length parts.whole in
    let count : length parts.digits ≡ 64 = parts.count in
    omega arith

-- a digest may be cut behind its twelfth digit
pub digest_boundary : (text : List ℕ) → is_digest text ≡ true → IsCharBoundary text 19
digest_boundary text h =
    let parts = digest_parts text h in
    let long : length text ≡ 71 = digest_length text h in
    let count : length parts.digits ≡ 64 = parts.count in
    let digit : is_hex_digit (get_or parts.digits 12 0) ≡ true = AllPass-from_list_all is_hex_digit parts.digits parts.all 12 0 (omega arith) in
    let small : get_or parts.digits 12 0 < 127 = (hex_bounds (get_or parts.digits 12 0) digit).1 in
    let at : get_or text 19 0 ≡ get_or parts.digits 12 0 = ap (λ (l : List ℕ). get_or l 19 0) parts.whole in
    IsCharBoundary-before_ascii text 19 (omega arith) (omega arith)
