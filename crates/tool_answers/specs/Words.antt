-- Answers by what a word says, and the words of permissions.
use Rattle.std.specs.Prelude.{List, [], ◌∷◌, Contains}
use Rattle.std.proofs.Common.{arith, refl}
use Rattle.warg_audit.specs.Files.OutputData.{OutputData}
use Rattle.warg_audit.specs.Files.Answers.{IsUnusable}
use Rattle.warg_permissions.specs.declared.operator.Permission.{Permission as OperatorPermission}
use Rattle.warg_permissions.specs.declared.operator.Permission.TheVariants.{Commit, DefineNamespace, ImportNamespace}
use Rattle.warg_permissions.specs.declared.package.Permission.{Permission as PackagePermission}
use Rattle.warg_permissions.specs.declared.package.Permission.TheVariants.{Release, Yank}

-- the word says nothing, so nothing is printed, and the status is 2
pub record IsUnsaid {A : Type 0} (Says : A → Type 0) (printed : OutputData) : Type 0 where
  pub nothing : (value : A) → Says value → ⊥
  pub unusable : IsUnusable printed

-- the answer by what a word says, if it says something
pub data IsByWord {A : Type 0} (Says : A → Type 0) (P : A → OutputData → Type 0) (printed : OutputData) : Type 0 where
  unsaid : IsUnsaid Says printed → IsByWord Says P printed
  by_value : (value : A) → Says value → P value printed → IsByWord Says P printed

-- the permissions of each kind in their order
abbrev pub package_order : List PackagePermission
package_order = Release ∷ Yank ∷ []

abbrev pub operator_order : List OperatorPermission
operator_order = Commit ∷ DefineNamespace ∷ ImportNamespace ∷ []

-- these are all
pub in_package_order : (permission : PackagePermission) → Contains package_order permission
in_package_order Release = (0, omega arith, refl)
in_package_order Yank = (1, omega arith, refl)

pub in_operator_order : (permission : OperatorPermission) → Contains operator_order permission
in_operator_order Commit = (0, omega arith, refl)
in_operator_order DefineNamespace = (1, omega arith, refl)
in_operator_order ImportNamespace = (2, omega arith, refl)
