-- Operator logs by their rules: what a longer log keeps, and what content bytes are.
use Rattle.std.specs.Prelude.{◌≡◌, ℕ, List, Some}
use Rattle.warg_envelope.specs.Faults.{RecordFault}
use Rattle.warg_log_laws.specs.RuledLogs.{RuledBy}
use Rattle.warg_log_records.specs.OperatorEntries.{OperatorOwnEntry}
use Rattle.warg_log_records.specs.OperatorReading.{operator_entry_of, operator_record_of}
use Rattle.warg_log_records.specs.RecordData.{RecordData}
use Rattle.warg_log_records.specs.Relations.{HasRecordFault, IsRecord}
use Rattle.warg_operator_log.specs.Namespaces.{Names, Namespace, rules}
use Rattle.warg_operator_log.specs.StateLaws.{listed_namespaces}
use Rattle.warg_permissions.specs.OperatorPermissions.{same_permission}
use Rattle.warg_permissions.specs.declared.operator.Permission.{Permission}
use Rattle.warg_protobuf.specs.OperatorRecord.{IsOperatorRecord, operator_record_table}

-- an operator log, as one word
abbrev pub ruled : RuledBy rules same_permission operator_record_of listed_namespaces
ruled = record {}

-- each namespace keeps its state
abbrev pub KeepsNamespaces : Names → Names → Type 0
KeepsNamespaces v w = (name : List ℕ) (s : Namespace) → v name ≡ Some s → w name ≡ Some s

-- the content bytes are the record
abbrev pub IsContent : List ℕ → RecordData Permission OperatorOwnEntry → Type 0
IsContent = IsRecord operator_record_table IsOperatorRecord operator_entry_of

-- the content bytes are none, by their first fault
abbrev pub HasContentFault : List ℕ → RecordFault → Type 0
HasContentFault = HasRecordFault operator_record_table IsOperatorRecord operator_entry_of
