-- The logs of either type as the program shows them.
use Rattle.std.specs.Prelude.{ℕ, List, []}
use Rattle.warg_crypto.specs.Signed.{toy_belongs}
use Rattle.warg_envelope.specs.FaultNames.{record_fault_name}
use Rattle.warg_envelope.specs.Faults.{RecordFault}
use Rattle.warg_log_records.specs.RecordData.{RecordData}
use Rattle.warg_log_records.specs.OperatorEntries.{OperatorOwnEntry}
use Rattle.warg_log_records.specs.OperatorReading.{operator_record_of}
use Rattle.warg_permissions.specs.declared.operator.Permission.{Permission as OperatorPermission}
use Rattle.warg_operator_log.specs.Namespaces.{OwnOffence as NamespaceOffence}
use Rattle.warg_operator_log.specs.OffenceNames.{offence_name as namespace_offence_name}
use Rattle.warg_operator_log.specs.State.{View as OperatorView}
use Rattle.warg_operator_log.specs.StateLaws.{kind as operator_kind}
use Rattle.warg_log_records.specs.PackageEntries.{PackageOwnEntry}
use Rattle.warg_log_records.specs.PackageReading.{package_record_of}
use Rattle.warg_permissions.specs.declared.package.Permission.{Permission as PackagePermission}
use Rattle.warg_package_log.specs.OffenceNames.{offence_name as release_offence_name}
use Rattle.warg_package_log.specs.Releases.{OwnOffence as ReleaseOffence}
use Rattle.warg_package_log.specs.State.{View as PackageView}
use Rattle.warg_package_log.specs.StateLaws.{kind as package_kind}
use Rattle.warg_log.specs.Rules.{LogOffence}
use Rattle.warg_audit.specs.declared.log_kind.LogKind.{LogKind}
use Rattle.warg_audit.specs.declared.log_kind.LogKind.TheVariants.{Package, Operator}
use Rattle.warg_audit.specs.LogAnswers.{LogDisplay, IsAuditAnswer, audit_answer}
use Rattle.warg_audit.specs.Printouts.{OutputData}
use Rattle.warg_audit.specs.ReleaseLines.{release_lines}

-- a package log shows its releases
abbrev pub package_log : LogDisplay (RecordData PackagePermission PackageOwnEntry) RecordFault PackageView (LogOffence PackagePermission ReleaseOffence)
package_log = record {
  kind = package_kind;
  read = package_record_of;
  fault_name = record_fault_name;
  offence_name = release_offence_name;
  shown = λ view. release_lines view.state.own_state;
}

-- an operator log shows nothing more
abbrev pub operator_log : LogDisplay (RecordData OperatorPermission OperatorOwnEntry) RecordFault OperatorView (LogOffence OperatorPermission NamespaceOffence)
operator_log = record {
  kind = operator_kind;
  read = operator_record_of;
  fault_name = record_fault_name;
  offence_name = namespace_offence_name;
  shown = λ view. [];
}

-- the answer to the lines of a log of this type, whose signatures are of the toy scheme
abbrev pub IsLogKindAnswer : LogKind → List (List ℕ) → OutputData → Type 0
IsLogKindAnswer Package lines printed = IsAuditAnswer package_log toy_belongs lines printed
IsLogKindAnswer Operator lines printed = IsAuditAnswer operator_log toy_belongs lines printed

-- the same, computed: the only answer (`laws`)
abbrev pub log_kind_answer : LogKind → List (List ℕ) → OutputData
log_kind_answer Package lines = audit_answer package_log toy_belongs lines
log_kind_answer Operator lines = audit_answer operator_log toy_belongs lines
