-- Versions whose texts read back are plain.
use Rattle.std.proofs.Common.{◌≡◌, ℕ, Bool, true, List, [], ◌∷◌, ◌++◌, length, Ok, refl, subst, arith}
use Rattle.std.specs.Prelude.{nat_lt}
use Rattle.std.specs.Fmt.{decimal}
use Rattle.std.specs.List.{list_all}
use Rattle.std.proofs.lemmas.Bool.Decides.{nat_tests}
use Rattle.semver.specs.Grammar.{IsValid, is_build, is_build_identifier, is_identifier_byte, is_pre_identifier, is_pre_release}
use Rattle.semver.specs.Identifiers.{marked, parts_text}
use Rattle.semver.specs.Order.{parts}
use Rattle.semver.specs.OrderLaws.{join-parts, join_dots}
use Rattle.semver.specs.Parse.{Parts, version_parts}
use Rattle.semver.proofs.Grammar.{version_parts-sound}
use Rattle.tool_laws.specs.Plain.Plain.{is_plain, is_sign}
use Rattle.tool_laws.proofs.PlainLemmas.PlainLemmas.{and_first, and_then, plain_append, plain_cons}
use Rattle.tool_laws.proofs.PlainLemmas.WordLemmas.{decimal_plain}

byte_plain : (b : ℕ) → is_identifier_byte b ≡ true → is_sign b ≡ true
byte_plain b h = grind (arith, nat_tests)

letters_plain : (part : List ℕ) → list_all is_identifier_byte part ≡ true → is_plain part ≡ true
letters_plain [] h = refl
letters_plain (b ∷ part) h =
    plain_cons b part (byte_plain b (and_first (is_identifier_byte b) (list_all is_identifier_byte part) h))
    (letters_plain part (and_then (is_identifier_byte b) (list_all is_identifier_byte part) h))

build_part_plain : (part : List ℕ) → is_build_identifier part ≡ true → is_plain part ≡ true
build_part_plain part h = letters_plain part (and_then (nat_lt 0 (length part)) (list_all is_identifier_byte part) h)

pre_part_plain : (part : List ℕ) → is_pre_identifier part ≡ true → is_plain part ≡ true
pre_part_plain part h = build_part_plain part (and_first (is_build_identifier part) _ h)

module _ (test : List ℕ → Bool) (by : (part : List ℕ) → test part ≡ true → is_plain part ≡ true) where
  dots_plain : (all : List (List ℕ)) → list_all test all ≡ true → is_plain (join_dots all) ≡ true
  unfolding join_dots
  dots_plain [] h = refl
  dots_plain (part ∷ []) h = by part (and_first (test part) true h)
  dots_plain (part ∷ next ∷ more) h =
      plain_append part (46 ∷ join_dots (next ∷ more)) (by part (and_first (test part) (list_all test (next ∷ more)) h))
      (plain_cons 46 (join_dots (next ∷ more)) refl (dots_plain (next ∷ more) (and_then (test part) (list_all test (next ∷ more)) h)))

  joined_plain : (text : List ℕ) → list_all test (parts text) ≡ true → is_plain text ≡ true
  joined_plain text h = subst (λ (l : List ℕ). is_plain l ≡ true) (join-parts text) (dots_plain (parts text) h)

pre_plain : (text : List ℕ) → is_pre_release text ≡ true → is_plain text ≡ true
pre_plain [] h = refl
pre_plain (b ∷ rest) h = joined_plain is_pre_identifier pre_part_plain (b ∷ rest) h

build_plain : (text : List ℕ) → is_build text ≡ true → is_plain text ≡ true
build_plain [] h = refl
build_plain (b ∷ rest) h = joined_plain is_build_identifier build_part_plain (b ∷ rest) h

marked_plain : (mark : ℕ) (text : List ℕ) → is_sign mark ≡ true → is_plain text ≡ true → is_plain (marked mark text) ≡ true
marked_plain mark [] m h = refl
marked_plain mark (b ∷ rest) m h = plain_cons mark (b ∷ rest) m h

valid_plain : (p : Parts) → IsValid p → is_plain (parts_text p) ≡ true
valid_plain p v =
    let marks : List ℕ = marked 45 p.3 ++ marked 43 p.4 in
    let third : List ℕ = decimal p.2 ++ marks in
    let second : List ℕ = decimal p.1 ++ 46 ∷ third in
    let marks_plain = plain_append (marked 45 p.3) (marked 43 p.4) (marked_plain 45 p.3 refl (pre_plain p.3 v.3)) (marked_plain 43 p.4 refl (build_plain p.4 v.4)) in
    let third_plain = plain_append (decimal p.2) marks (decimal_plain p.2) marks_plain in
    let second_plain = plain_append (decimal p.1) (46 ∷ third) (decimal_plain p.1) (plain_cons 46 third refl third_plain) in
    plain_append (decimal p.0) (46 ∷ second) (decimal_plain p.0) (plain_cons 46 second refl second_plain)

-- a version whose text reads back
pub version_plain : (p : Parts) → version_parts (parts_text p) ≡ Ok p → is_plain (parts_text p) ≡ true
version_plain p back = valid_plain p (version_parts-sound (parts_text p) p back).1
