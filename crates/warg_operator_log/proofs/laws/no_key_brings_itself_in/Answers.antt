use Rattle.std.proofs.Common.{refl}
use Rattle.warg_permissions.specs.OperatorPermissions.{same_permission}
use Rattle.warg_log_records.specs.OperatorReading.{operator_record_of}
use Rattle.warg_log.proofs.AdmissionLaws.{accepted-admitted}
use Rattle.warg_operator_log.specs.Namespaces.{rules}
use Rattle.warg_operator_log.specs.StateLaws.{listed_namespaces, state_laws}
use Rattle.warg_operator_log.proofs.laws.no_key_brings_itself_in.Goals as goal

pub returns : goal.returns
returns c = λ b es h ones. accepted-admitted rules same_permission operator_record_of listed_namespaces b refl state_laws es h ones
