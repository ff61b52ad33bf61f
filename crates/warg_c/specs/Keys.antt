-- Keys, and what they may do.
use Rattle.std.specs.Prelude.{◌≡◌, ℕ, Bool, false, List, [], ◌∷◌, ◌++◌, fold, length, ◌==◌, if◌then◌else◌, Option, Some, None, IsSome}
use Rattle.std.specs.Option.{option_map}
use Rattle.std.specs.Str.{IsUtf8}
use Rattle.warg_crypto.specs.NamedBytes.{NamedBytes, named_bytes_text}
use Rattle.warg_operator_log.specs.State as operators
use Rattle.warg_package_log.specs.State as packages
use Rattle.warg_permissions.specs.OperatorPermissions as operator_permission
use Rattle.warg_permissions.specs.PackagePermissions as package_permission
use Rattle.warg_c.specs.declared.any_log.AnyLog.{AnyLog}
use Rattle.warg_c.specs.declared.any_log.AnyLog.TheVariants.{Package, Operator}
use Rattle.warg_c.specs.Logs.{state_of}

module _ {P : Type 0} (named : List ℕ → Option P) where
  -- whether a key id holds the permission of a text
  abbrev pub HoldsIs : (List ℕ → P → Bool) → List ℕ → List ℕ → Bool → Type 0
  HoldsIs held key text answer = (p : P) × (named text ≡ Some p) × (held key p ≡ answer)

  -- the texts are no key id and permission
  abbrev pub IsNoPermission : List ℕ → List ℕ → Type 0
  IsNoPermission key text = IsUtf8 key → IsUtf8 text → named text ≡ None

abbrev pub holds_tells : AnyLog → List ℕ → List ℕ → Bool → Type 0
holds_tells (Package log) = HoldsIs package_permission.permission_in (λ key p. (packages.view_of (state_of log)).state.authority.holds key p)
holds_tells (Operator log) = HoldsIs operator_permission.permission_in (λ key p. (operators.view_of (state_of log)).state.authority.holds key p)

abbrev pub holds_bad : AnyLog → List ℕ → List ℕ → Type 0
holds_bad (Package log) = IsNoPermission package_permission.permission_in
holds_bad (Operator log) = IsNoPermission operator_permission.permission_in

-- logs of the kind have a permission of this name
abbrev pub is_permission : AnyLog → List ℕ → Type 0
is_permission (Package log) text = IsSome (package_permission.permission_in text)
is_permission (Operator log) text = IsSome (operator_permission.permission_in text)

-- the text with a name more, if it is held
abbrev pub with_name : List ℕ → Bool → List ℕ → List ℕ
with_name text is_held name = if is_held then (if length text == 0 then name else text ++ 32 ∷ name) else text

-- the names of those of the permissions that are held
abbrev pub held_names : {P : Type 0} → (P → List ℕ) → (P → Bool) → List P → List ℕ
held_names text_of is_held permissions = fold (λ text p. with_name text (is_held p) (text_of p)) [] permissions

-- the names of the permissions that a key id holds
abbrev pub PackageText : packages.View → List ℕ → List ℕ → Type 0
PackageText v key text = text ≡ held_names package_permission.permission_text (v.state.authority.holds key) package_permission.all_permissions

abbrev pub OperatorText : operators.View → List ℕ → List ℕ → Type 0
OperatorText v key text = text ≡ held_names operator_permission.permission_text (v.state.authority.holds key) operator_permission.all_permissions

abbrev pub permissions_tell : AnyLog → List ℕ → List ℕ → Type 0
permissions_tell (Package log) = PackageText (packages.view_of (state_of log))
permissions_tell (Operator log) = OperatorText (operators.view_of (state_of log))

-- the log does not know the key id
abbrev pub permissions_lack : AnyLog → List ℕ → Type 0
permissions_lack (Package log) key = (packages.view_of (state_of log)).state.authority.has_entry key ≡ false
permissions_lack (Operator log) key = (operators.view_of (state_of log)).state.authority.has_entry key ≡ false

-- the key of an id
abbrev pub key_of : AnyLog → List ℕ → Option NamedBytes
key_of (Package log) = (packages.view_of (state_of log)).state.authority.key
key_of (Operator log) = (operators.view_of (state_of log)).state.authority.key

abbrev pub KeyText : Option NamedBytes → List ℕ → Type 0
KeyText key text = Some text ≡ option_map named_bytes_text key
