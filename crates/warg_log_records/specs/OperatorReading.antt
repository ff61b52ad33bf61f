-- What content bytes say as a record of an operator log.
use Rattle.std.specs.Prelude.{ℕ, List, Option, Result, Ok}
use Rattle.warg_protobuf.specs.DefineNamespace.{DefineNamespaceValue}
use Rattle.warg_protobuf.specs.ImportNamespace.{ImportNamespaceValue}
use Rattle.warg_protobuf.specs.OperatorEntry.{OperatorMember}
use Rattle.warg_protobuf.specs.OperatorRecord as message
use Rattle.warg_envelope.specs.Faults.{RecordFault}
use Rattle.warg_log_records.specs.RecordData.{EntryData, RecordData}
use Rattle.warg_log_records.specs.RecordReading.{entry_in, decoded_record}
use Rattle.warg_log_records.specs.OperatorEntries.{OperatorOwnEntry}
use Rattle.warg_log_records.specs.OperatorEntries as plain
use Rattle.warg_permissions.specs.OperatorPermissions.{permission_of}
use Rattle.warg_permissions.specs.declared.operator.Permission.{Permission}

-- the definition that its message says; any text is a namespace here
abbrev pub define_namespace_of : DefineNamespaceValue → Result OperatorOwnEntry RecordFault
define_namespace_of m = Ok (plain.DefineNamespace m.namespace)

-- the import that its message says; any text is a namespace or a registry here
abbrev pub import_namespace_of : ImportNamespaceValue → Result OperatorOwnEntry RecordFault
import_namespace_of m = Ok (plain.ImportNamespace m.namespace m.registry)

-- what an entry's message says
abbrev pub operator_entry_of : Option OperatorMember → Result (EntryData Permission OperatorOwnEntry) RecordFault
operator_entry_of o = entry_in permission_of define_namespace_of import_namespace_of o

-- what content bytes say, or their first fault
unfoldable pub operator_record_of : List ℕ → Result (RecordData Permission OperatorOwnEntry) RecordFault
operator_record_of content = decoded_record operator_entry_of (message.operator_record_of content)
