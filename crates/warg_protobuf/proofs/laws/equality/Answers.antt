use Rattle.warg_protobuf.proofs.Equalities.{grant_decided, revocation_decided}
use Rattle.warg_protobuf.proofs.OperatorEqualities as in_operator
use Rattle.warg_protobuf.proofs.PackageEqualities as in_package
use Rattle.warg_protobuf.proofs.laws.equality.Goals as goal

pub returns-clause-grants : goal.returns-clause-grants
returns-clause-grants c = λ a b. grant_decided a b

pub returns-clause-revocations : goal.returns-clause-revocations
returns-clause-revocations c = λ a b. revocation_decided a b

pub returns-clause-package_contents : goal.returns-clause-package_contents
returns-clause-package_contents c = λ a b. in_package.contents_decided a b

pub returns-clause-package_entries : goal.returns-clause-package_entries
returns-clause-package_entries c = λ a b. in_package.entry_decided a b

pub returns-clause-operator_contents : goal.returns-clause-operator_contents
returns-clause-operator_contents c = λ a b. in_operator.contents_decided a b

pub returns-clause-operator_entries : goal.returns-clause-operator_entries
returns-clause-operator_entries c = λ a b. in_operator.entry_decided a b

pub returns-clause-package_records : goal.returns-clause-package_records
returns-clause-package_records c = λ a b. in_package.said_decided a b

pub returns-clause-operator_records : goal.returns-clause-operator_records
returns-clause-operator_records c = λ a b. in_operator.said_decided a b
