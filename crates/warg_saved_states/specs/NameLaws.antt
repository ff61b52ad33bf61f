-- A name that is read is written as it was, a name that is written is read as the key, and equal keys are one.
use Rattle.std.specs.Prelude.{ℕ, ◌≡◌, ◌&&◌, nat_eq, Bool, List, [], ◌∷◌, true, Result, Ok, Err, refl}
use Rattle.std.specs.Cmp.{first_so, second_so}
use Rattle.std.specs.Cmp.Lexicographic.{nat_list_eq_equiv}
use Rattle.std.specs.Str.{bytes_eq}
use Rattle.std.proofs.Common.{sym, ap, ◌∙◌}
use Rattle.std.proofs.lemmas.Bool.{eqb-true}
use Rattle.std.proofs.lemmas.Cmp.{nat_eq_equiv}
use Rattle.std.proofs.lemmas.Slice.Eq.{bytes_eq-Decides}
use Rattle.semver.specs.declared.Version.{Version as VersionValue}
use Rattle.semver.specs.declared.error.Error.{Error}
use Rattle.semver.specs.Identifiers.{parts_of, parts_text}
use Rattle.semver.specs.Parse.{version_parts}
use Rattle.semver.proofs.Grammar.{version_parts-sound}
use Rattle.warg_crypto.specs.Json.Json.{AreReadBack, Version, or_bad_text, json_result}
use Rattle.warg_saved_states.specs.MapNames.{text_name, text_named, version_name, version_named}

named_same : {A : Type 0} (x y : A) → json_result x ≡ Ok y → x ≡ y
named_same x y e = cc

-- a name that is read as a text is written as it was
pub text_back : (name k : List ℕ) → text_named name ≡ Ok k → text_name k ≡ name
text_back name k e = sym (named_same _ _ e)

-- a name that is read as a version is written as it was
pub version_back : (name : List ℕ) (k : Version) → version_named name ≡ Ok k → version_name k ≡ name
version_back name k e = by (version_parts name) refl e
  where
    by : (r : Result Version Error) → version_parts name ≡ r → or_bad_text r ≡ Ok k → parts_text k ≡ name
    by (Ok p) is h = ap parts_text (sym (named_same p k h)) ∙ (version_parts-sound name p is).0
    by (Err f) is h = cc h

-- the name of a version whose text reads back is read as the version
pub version_read : (k : Version) → AreReadBack (k ∷ []) → version_named (version_name k) ≡ Ok k
version_read k h = ap or_bad_text h.0

-- whether the numbers and the texts are equal
abbrev same_parts : Version → Version → Bool
same_parts a b = nat_eq a.0 b.0 && (nat_eq a.1 b.1 && (nat_eq a.2 b.2 && (bytes_eq a.3 b.3 && bytes_eq a.4 b.4)))

-- versions with equal numbers and texts are one
pub one_version : (a b : VersionValue) → same_parts (parts_of a) (parts_of b) ≡ true → parts_of a ≡ parts_of b
one_version a b h = one (parts_of a) (parts_of b) h
  where
    one : (a b : Version) → same_parts a b ≡ true → a ≡ b
    one a b h =
        let t1 = second_so (nat_eq a.0 b.0) _ h in
        let t2 = second_so (nat_eq a.1 b.1) _ t1 in
        let t3 = second_so (nat_eq a.2 b.2) _ t2 in
        let e0 = eqb-true a.0 b.0 (first_so (nat_eq a.0 b.0) _ h) in
        let e1 = eqb-true a.1 b.1 (first_so (nat_eq a.1 b.1) _ t1) in
        let e2 = eqb-true a.2 b.2 (first_so (nat_eq a.2 b.2) _ t2) in
        let e3 = (bytes_eq-Decides a.3 b.3).0 (first_so (bytes_eq a.3 b.3) _ t3) in
        let e4 = (bytes_eq-Decides a.4 b.4).0 (second_so (bytes_eq a.3 b.3) _ t3) in
        λ i. (e0 i, e1 i, e2 i, e3 i, e4 i)

-- versions that are one have equal numbers and texts
pub same_version : (a b : VersionValue) → parts_of a ≡ parts_of b → same_parts (parts_of a) (parts_of b) ≡ true
same_version a b h = ap (same_parts (parts_of a)) (sym h) ∙ self (parts_of a)
  where
    self : (a : Version) → same_parts a a ≡ true
    self a = λ i. nat_eq_equiv.refl a.0 i && (nat_eq_equiv.refl a.1 i && (nat_eq_equiv.refl a.2 i && (nat_list_eq_equiv.refl a.3 i && nat_list_eq_equiv.refl a.4 i)))
