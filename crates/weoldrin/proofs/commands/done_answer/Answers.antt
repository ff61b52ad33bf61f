use Rattle.std.proofs.Common.{refl}
use Rattle.warg_audit.specs.LogKinds.{package_log, operator_log}
use Rattle.weoldrin.proofs.commands.done_answer.Goals as goal

pub returns-in-Package-clause-answered : goal.returns-in-Package-clause-answered
returns-in-Package-clause-answered g c =
    rw c.in-Package.is (c.task_answer.ensures.answered package_log.fault_name package_log.offence_name package_log.shown
    (record { faults = λ e. refl; offences = λ e. refl; lines = λ s. refl }))

pub returns-in-Package-clause-files : goal.returns-in-Package-clause-files
returns-in-Package-clause-files g c =
    rw c.in-Package.is (c.task_answer.ensures.files package_log.fault_name package_log.offence_name package_log.shown
    (record { faults = λ e. refl; offences = λ e. refl; lines = λ s. refl }))

pub returns-in-Operator-clause-answered : goal.returns-in-Operator-clause-answered
returns-in-Operator-clause-answered g c =
    rw c.in-Operator.is (c.task_answer-in-Operator.ensures.answered operator_log.fault_name operator_log.offence_name operator_log.shown
    (record { faults = λ e. refl; offences = λ e. refl; lines = λ s. refl }))

pub returns-in-Operator-clause-files : goal.returns-in-Operator-clause-files
returns-in-Operator-clause-files g c =
    rw c.in-Operator.is (c.task_answer-in-Operator.ensures.files operator_log.fault_name operator_log.offence_name operator_log.shown
    (record { faults = λ e. refl; offences = λ e. refl; lines = λ s. refl }))
