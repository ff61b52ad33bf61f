use Rattle.warg_log_records.proofs.OperatorEqualities as in_operator
use Rattle.warg_log_records.proofs.PackageEqualities as in_package
use Rattle.warg_log_records.proofs.laws.equality.Goals as goal

pub returns-clause-package_entries : goal.returns-clause-package_entries
returns-clause-package_entries c = λ a b. in_package.entry_decided a b

pub returns-clause-operator_entries : goal.returns-clause-operator_entries
returns-clause-operator_entries c = λ a b. in_operator.entry_decided a b

pub returns-clause-package_records : goal.returns-clause-package_records
returns-clause-package_records c = λ a b. in_package.said_decided a b

pub returns-clause-operator_records : goal.returns-clause-operator_records
returns-clause-operator_records c = λ a b. in_operator.said_decided a b
