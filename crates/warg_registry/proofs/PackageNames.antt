-- The test of package names and their grammar are one; a package name is cut in one way.
use Rattle.std.proofs.Common.{◌≡◌, ◌<◌, ◌≤◌, ◌+◌, ◌==◌, ◌&&◌, not, ℕ, Bool, true, false, List, [], ◌∷◌, ◌++◌, length, take, drop, arith, refl, ◌∙◌, ap, if◌then◌else◌, length-append}
use Rattle.std.specs.List.{list_any, before_first, after_first, position_or_len}
use Rattle.std.proofs.Math.Seq.{take-append_seam, drop-append-add}
use Rattle.std.proofs.lemmas.Grind.{common_steps}
use Rattle.std.proofs.lemmas.List.Sums.{split_at_first, passes_at_first, prefix_len-le-length}
use Rattle.warg_registry.specs.KebabNames.{is_letter, is_letter_or_digit, ends_kebab, is_kebab_name, IsKebabName, IsPackageName, IsPackageText, is_package_name, is_colon, namespace_of, name_of}
use Rattle.warg_registry.proofs.KebabLemmas.{and_first, and_second, and_both, kebab_from, kebab_passes}

not_colon : (b : ℕ) → is_letter_or_digit b ≡ true → (b == 58) ≡ false
not_colon b h = at (b == 58) refl
  where
    at : (colon : Bool) → (b == 58) ≡ colon → colon ≡ false
    at false e = refl
    at true e = let is : b ≡ 58 = grind (arith, common_steps) in let impossible : is_letter_or_digit 58 ≡ true = rw is at h in absurd (grind (arith))

letter_fits : (b : ℕ) → is_letter b ≡ true → is_letter_or_digit b ≡ true
letter_fits b h = rw h refl

no_colon_behind : (hyphen : Bool) (b : ℕ) (bs : List ℕ) → (b == 45) ≡ hyphen → (if hyphen then ends_kebab true bs else is_letter_or_digit b && ends_kebab false bs) ≡ true
    → (ends_kebab true bs ≡ true → list_any is_colon bs ≡ false) → (ends_kebab false bs ≡ true → list_any is_colon bs ≡ false) → list_any is_colon (b ∷ bs) ≡ false
no_colon_behind true b bs e h begins goes_on = let is : b ≡ 45 = grind (arith, common_steps) in rw is (begins h)
no_colon_behind false b bs e h begins goes_on = rw (not_colon b (and_first _ _ h)) (goes_on (and_second _ _ h))

-- a kebab name holds no colon
no_colon : (starts : Bool) (bs : List ℕ) → ends_kebab starts bs ≡ true → list_any is_colon bs ≡ false
no_colon starts [] h = refl
no_colon true (b ∷ bs) h = rw (not_colon b (letter_fits b (and_first _ _ h))) (no_colon false bs (and_second _ _ h))
no_colon false (b ∷ bs) h = no_colon_behind (b == 45) b bs refl h (no_colon true bs) (no_colon false bs)

-- the first colon stands after a part that holds none
colon_after : (front rest : List ℕ) → list_any is_colon front ≡ false → position_or_len is_colon (front ++ 58 ∷ rest) ≡ length front
colon_after [] rest h = refl
colon_after (b ∷ front) rest h = grind (arith, colon_after front rest)

at_colon : (b : ℕ) → (b == 58) ≡ true → b ≡ 58
at_colon b h = grind (arith, common_steps)

below : (n m : ℕ) → not (n == m) ≡ true → n ≤ m → n < m
below n m h l = grind (arith, common_steps)

pub package_parts : (text : List ℕ) → is_package_name text ≡ true → IsPackageName text (namespace_of text) (name_of text)
package_parts text h =
    let inside : position_or_len is_colon text < length text = below _ _ (and_first _ _ h) (prefix_len-le-length (λ b. not (is_colon b)) text) in
    record {
      parts = split_at_first is_colon text 0 inside ∙ ap (λ (b : ℕ). before_first is_colon text ++ b ∷ after_first is_colon text) (at_colon _ (passes_at_first is_colon text 0 inside));
      namespace_is = kebab_from _ (and_first _ _ (and_second _ _ h));
      name_is = kebab_from _ (and_second _ _ (and_second _ _ h));
    }

place : (front rest : List ℕ) → IsKebabName front → position_or_len is_colon (front ++ 58 ∷ rest) ≡ length front
place front rest k = colon_after front rest (no_colon true front (kebab_passes front k))

inside_text : (front rest : List ℕ) (n : ℕ) → n ≡ length front → not (n == length (front ++ 58 ∷ rest)) ≡ true
inside_text front rest n e = rw e (grind (arith, length-append front (58 ∷ rest)))

-- the parts of a package name are those in front of its colon and behind it
pub package_namespace : (text namespace name : List ℕ) → IsPackageName text namespace name → namespace_of text ≡ namespace
package_namespace text namespace name p = rw p.parts (ap (λ (n : ℕ). take n (namespace ++ 58 ∷ name)) (place namespace name p.namespace_is) ∙ take-append_seam namespace (58 ∷ name))

pub package_name_part : (text namespace name : List ℕ) → IsPackageName text namespace name → name_of text ≡ name
package_name_part text namespace name p = rw p.parts (ap (λ (n : ℕ). drop (n + 1) (namespace ++ 58 ∷ name)) (place namespace name p.namespace_is) ∙ drop-append-add namespace (58 ∷ name) 1)

pub package_passes : (text namespace name : List ℕ) → IsPackageName text namespace name → is_package_name text ≡ true
package_passes text namespace name p =
    and_both (not (position_or_len is_colon text == length text)) (is_kebab_name (namespace_of text) && is_kebab_name (name_of text))
    (rw p.parts (inside_text namespace name (position_or_len is_colon (namespace ++ 58 ∷ name)) (place namespace name p.namespace_is)))
    (and_both (is_kebab_name (namespace_of text)) (is_kebab_name (name_of text)) (rw (package_namespace text namespace name p) (kebab_passes namespace p.namespace_is))
    (rw (package_name_part text namespace name p) (kebab_passes name p.name_is)))

pub package_text : (text : List ℕ) → IsPackageText text → is_package_name text ≡ true
package_text text t = package_passes text t.0 t.1 t.2

pub package_is : (text : List ℕ) → is_package_name text ≡ true → IsPackageText text
package_is text h = (namespace_of text, name_of text, package_parts text h)

pub package_is_not : (text : List ℕ) → is_package_name text ≡ false → IsPackageText text → ⊥
package_is_not text h t = let impossible : is_package_name text ≡ true = package_text text t in absurd (grind (arith))
