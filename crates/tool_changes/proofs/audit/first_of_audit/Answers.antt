use Rattle.std.proofs.Common.{refl}
use Rattle.warg_audit.specs.LogKinds.{package_log, operator_log}
use Rattle.tool_changes.proofs.audit.first_of_audit.Goals as goal

pub returns-in-Package : goal.returns-in-Package
returns-in-Package g c = rw c.in-Package.is (c.first_of_verdict.ensures package_log.fault_name package_log.offence_name package_log.shown
    (record { faults = λ e. refl; offences = λ e. refl; lines = λ s. refl }))

pub returns-in-Operator : goal.returns-in-Operator
returns-in-Operator g c = rw c.in-Operator.is (c.first_of_verdict-in-Operator.ensures operator_log.fault_name operator_log.offence_name operator_log.shown
    (record { faults = λ e. refl; offences = λ e. refl; lines = λ s. refl }))
