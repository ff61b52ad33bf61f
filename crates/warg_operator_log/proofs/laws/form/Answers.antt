use Rattle.warg_permissions.specs.OperatorPermissions.{same_permission}
use Rattle.warg_log_records.specs.OperatorReading.{operator_record_of}
use Rattle.warg_log.proofs.FormLaws.{accepted-read, accepted-form}
use Rattle.warg_operator_log.specs.Namespaces.{rules}
use Rattle.warg_operator_log.specs.StateLaws.{listed_namespaces, state_laws}
use Rattle.warg_operator_log.proofs.laws.form.Goals as goal

pub returns-clause-records : goal.returns-clause-records
returns-clause-records c = λ b es h. accepted-read rules same_permission operator_record_of listed_namespaces b state_laws es h

pub returns-clause-form : goal.returns-clause-form
returns-clause-form c = λ b es some h. accepted-form rules same_permission operator_record_of listed_namespaces b state_laws es some h
