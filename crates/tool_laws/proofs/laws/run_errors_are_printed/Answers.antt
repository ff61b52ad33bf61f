use Rattle.warg_audit.specs.LogKinds.{operator_log, package_log}
use Rattle.tool_laws.proofs.KindLemmas.{operator_plain, package_plain}
use Rattle.tool_laws.proofs.LogLemmas.{negative_clean}
use Rattle.tool_laws.proofs.laws.run_errors_are_printed.Goals as goal

pub returns-clause-package : goal.returns-clause-package
returns-clause-package c = negative_clean package_log package_plain

pub returns-clause-operator : goal.returns-clause-operator
returns-clause-operator c = negative_clean operator_log operator_plain
