-- Operator records as messages.
use Rattle.std.specs.Prelude.{ℕ, ℤ, pos, List, Option}
use Rattle.warg_protobuf.specs.Entry.{FirstOwn, SecondOwn}
use Rattle.warg_protobuf.specs.OperatorEntry.{OperatorMember}
use Rattle.warg_protobuf.specs.OperatorRecord.{operator_record_bytes}
use Rattle.warg_protobuf.specs.Record.{RecordValue}
use Rattle.warg_log_records.specs.RecordData.{EntryData, RecordData}
use Rattle.warg_log_records.specs.Writing.{message_of_entry, record_message}
use Rattle.warg_log_records.specs.OperatorEntries.{OperatorOwnEntry, DefineNamespace, ImportNamespace}
use Rattle.warg_permissions.specs.OperatorPermissions.{number_of}
use Rattle.warg_permissions.specs.declared.operator.Permission.{Permission}

-- the number of a permission in a message, where numbers have a sign
abbrev pub permission_number : Permission → ℤ
permission_number p = pos (number_of p)

-- the message of a definition or of an import
abbrev pub operator_own_message : OperatorOwnEntry → OperatorMember
operator_own_message (DefineNamespace namespace) = FirstOwn (record { namespace = namespace })
operator_own_message (ImportNamespace namespace registry) = SecondOwn (record { namespace = namespace; registry = registry })

-- the message of an entry
abbrev pub operator_entry_message : EntryData Permission OperatorOwnEntry → Option OperatorMember
operator_entry_message e = message_of_entry permission_number operator_own_message e

-- the message of a record
abbrev pub operator_record_message : RecordData Permission OperatorOwnEntry
    → RecordValue (List (Option OperatorMember))
operator_record_message s = record_message operator_entry_message s

-- the content bytes that are written of a record
unfoldable pub operator_content_of : RecordData Permission OperatorOwnEntry → List ℕ
operator_content_of s = operator_record_bytes (operator_record_message s)
