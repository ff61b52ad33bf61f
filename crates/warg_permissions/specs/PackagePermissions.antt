-- The permissions of a package log.
use Rattle.std.specs.Prelude.{◌≡◌, ℕ, ℤ, pos, Bool, true, List, [], ◌∷◌, Option, Some, codes}
use Rattle.std.specs.Cmp.{IsEquivalence}
use Rattle.std.proofs.Common.{refl}
use Rattle.warg_permissions.specs.Permissions.{named_in, numbered_in, same_number, same_number_equiv, same_number-is}
use Rattle.warg_permissions.specs.declared.package.Permission.{Permission}
use Rattle.warg_permissions.specs.declared.package.Permission.TheVariants.{Release, Yank}

-- all permissions, by their numbers
abbrev pub all_permissions : List Permission
all_permissions = Release ∷ Yank ∷ []

-- the number of a permission in a message
abbrev pub number_of : Permission → ℕ
number_of Release = 1
number_of Yank = 2

-- the permission that a number of a message names
abbrev pub permission_of : ℤ → Option Permission
permission_of v = numbered_in number_of all_permissions v

-- the text of a permission
abbrev pub permission_text : Permission → List ℕ
permission_text Release = codes "release"
permission_text Yank = codes "yank"

-- the permission that a text names
abbrev pub permission_in : List ℕ → Option Permission
permission_in text = named_in permission_text all_permissions text

-- a permission is read back from its number
pub permission_of-number_of : (p : Permission) → permission_of (pos (number_of p)) ≡ Some p
permission_of-number_of Release = refl
permission_of-number_of Yank = refl

-- a permission is read back from its text
pub permission_in-permission_text : (p : Permission) → permission_in (permission_text p) ≡ Some p
permission_in-permission_text Release = refl
permission_in-permission_text Yank = refl

-- whether two permissions are the same: what `==` answers
abbrev pub same_permission : Permission → Permission → Bool
same_permission p q = same_number number_of p q

-- to be the same is an equivalence of permissions
pub same_permission_equiv : IsEquivalence same_permission
same_permission_equiv = same_number_equiv number_of

-- permissions that `==` calls equal are the same
pub same_permission-is : (p q : Permission) → same_permission p q ≡ true → p ≡ q
same_permission-is = same_number-is number_of permission_of permission_of-number_of
