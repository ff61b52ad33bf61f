use Rattle.std.proofs.Common.{refl}
use Rattle.std.proofs.lemmas.Result.{IfOk-weaker}
use Rattle.warg_audit.specs.LogKinds.{package_log, operator_log}
use Rattle.warg_audit.proofs.program.log_kind_reply.Goals as goal

pub returns-in-Package : goal.returns-in-Package
returns-in-Package c = rw c.in-Package.is (IfOk-weaker c.log_reply.result _ _
    (λ reply is. is package_log.fault_name package_log.offence_name package_log.shown (record { faults = λ e. refl; offences = λ e. refl; lines = λ s. refl }))
    c.log_reply.ensures)

pub returns-in-Operator : goal.returns-in-Operator
returns-in-Operator c = rw c.in-Operator.is (IfOk-weaker c.log_reply-in-Operator.result _ _
    (λ reply is. is operator_log.fault_name operator_log.offence_name operator_log.shown (record { faults = λ e. refl; offences = λ e. refl; lines = λ s. refl }))
    c.log_reply-in-Operator.ensures)
