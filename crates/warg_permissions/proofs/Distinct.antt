-- All permissions of a kind, each once.
use Rattle.std.specs.Prelude.{◌≡◌, [], ◌∷◌, refl}
use Rattle.std.specs.List.{IsDistinct}
use Rattle.warg_permissions.specs.OperatorPermissions as operator_permissions
use Rattle.warg_permissions.specs.PackagePermissions as package_permissions
use Rattle.warg_permissions.specs.declared.operator.Permission.TheVariants as operators
use Rattle.warg_permissions.specs.declared.package.Permission.TheVariants as packages

pub operator_permissions_distinct : IsDistinct operator_permissions.same_permission (operators.Commit ∷ operators.DefineNamespace ∷ operators.ImportNamespace ∷ [])
unfolding IsDistinct
operator_permissions_distinct = ((refl, (refl, tt)), ((refl, tt), (tt, tt)))

pub package_permissions_distinct : IsDistinct package_permissions.same_permission (packages.Release ∷ packages.Yank ∷ [])
unfolding IsDistinct
package_permissions_distinct = ((refl, tt), (tt, tt))
