use Rattle.warg_permissions.specs.OperatorPermissions as in_operator
use Rattle.warg_permissions.specs.PackagePermissions as in_package
use Rattle.warg_permissions.proofs.Equality.{decided}
use Rattle.warg_permissions.proofs.laws.equality.Goals as goal

pub returns-clause-package_permissions : goal.returns-clause-package_permissions
returns-clause-package_permissions c = λ a b. decided in_package.same_permission in_package.same_permission_equiv in_package.same_permission-is a b

pub returns-clause-operator_permissions : goal.returns-clause-operator_permissions
returns-clause-operator_permissions c = λ a b. decided in_operator.same_permission in_operator.same_permission_equiv in_operator.same_permission-is a b
