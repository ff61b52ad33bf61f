-- A kind's permissions by their list, lists of permissions, and what is answered where a text or a number names none.
use Rattle.std.specs.Prelude.{◌≡◌, ℕ, ℤ, pos, ◌==◌, Bool, true, List, [], ◌∷◌, Option, Some, None, Result, Ok, Err, if◌then◌else◌}
use Rattle.std.specs.Cmp.{IsEquivalence, on_equiv}
use Rattle.std.specs.Hash as fed
use Rattle.std.specs.List.{list_any}
use Rattle.std.specs.Ordering.{int_eq}
use Rattle.std.specs.Str.{bytes_eq}
use Rattle.std.proofs.Common.{sym, ap, ◌∙◌}
use Rattle.std.proofs.lemmas.Cmp.{nat_eq_equiv}
use Rattle.std.proofs.lemmas.Bool.{eqb-true}
use Rattle.warg_permissions.specs.declared.permission.InvalidPermission.{InvalidPermission}
use Rattle.warg_permissions.specs.declared.permission.PermissionParseError.{PermissionParseError}

-- the first of these that a test takes
abbrev pub first_where : {P : Type 0} → (P → Bool) → List P → Option P
first_where test [] = None
first_where test (p ∷ ps) = if test p then Some p else first_where test ps

-- the one of these that a text names
abbrev pub named_in : {P : Type 0} → (P → List ℕ) → List P → List ℕ → Option P
named_in text_of ps text = first_where (λ p. bytes_eq text (text_of p)) ps

one_some : {P : Type 0} (p q : P) → ◌≡◌ {A = Option P} (Some p) (Some q) → p ≡ q
one_some p q h = cc

module _ {P : Type 0} (number_of : P → ℕ) where
  -- the one of these that a number of a message names
  abbrev pub numbered_in : List P → ℤ → Option P
  numbered_in ps v = first_where (λ p. int_eq v (pos (number_of p))) ps

  -- whether two permissions are the same: what `==` answers
  abbrev pub same_number : P → P → Bool
  same_number p q = number_of p == number_of q

  -- to be the same is an equivalence of permissions
  pub same_number_equiv : IsEquivalence same_number
  same_number_equiv = on_equiv number_of nat_eq_equiv

  -- permissions that `==` calls equal are the same, where each is read back from its number
  pub same_number-is : (permission_of : ℤ → Option P) → ((p : P) → permission_of (pos (number_of p)) ≡ Some p)
      → (p q : P) → same_number p q ≡ true → p ≡ q
  same_number-is permission_of back p q h = one_some p q (sym (back p) ∙ ap (λ (n : ℕ). permission_of (pos n)) (eqb-true (number_of p) (number_of q) h) ∙ back q)

  -- of permissions that are the same, a hasher is fed the same
  pub hash-same_number : (p q : P) → same_number p q ≡ true → fed.u8 (number_of p) ≡ fed.u8 (number_of q)
  hash-same_number p q h = ap fed.u8 (eqb-true (number_of p) (number_of q) h)

-- whether the permissions have p among them, where same compares two
abbrev pub lists : {P : Type 0} → (P → P → Bool) → List P → P → Bool
lists same permissions p = list_any (λ x. same x p) permissions

-- the permission that is named, or else that none is
abbrev pub named_or : {P : Type 0} → Option P → Result P InvalidPermission
named_or (Some p) = Ok p
named_or None = Err (record {})

-- the permission of a number, or else the number
abbrev pub numbered_or : {P : Type 0} → ℤ → Option P → Result P PermissionParseError
numbered_or v (Some p) = Ok p
numbered_or v None = Err (record { value = v })
