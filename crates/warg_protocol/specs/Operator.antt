-- Operator logs: what a state stands for, what its look-ups answer, and what a log's history says.
-- the rules, and what content bytes are as a record
pub use Rattle.warg_operator_log.specs.StateLaws.{kind, operator_log, effects, AreEquivalent}
pub use Rattle.warg_operator_log.specs.Namespaces.{rules}
pub use Rattle.warg_log_records.specs.OperatorReading.{operator_record_of, operator_entry_of}
pub use Rattle.warg_log_records.specs.Readings.{operator_reading}
pub use Rattle.warg_log_records.specs.OperatorEntries.{OperatorOwnEntry, entry_data, record_data, required_permission_of}
pub use Rattle.warg_log_records.specs.OperatorWriting.{operator_record_message, operator_entry_message, operator_content_of}
-- what a state stands for: `(view_of s).state.authority.holds`, `.key`, `(view_of s).state.own_state`, `(view_of s).head`
pub use Rattle.warg_operator_log.specs.State.{View, view_of, envelope_as_data, offence_of, record_offence, unsigned_offence, after_record}
pub use Rattle.warg_permissions.specs.declared.operator.Permission.{Permission}
pub use Rattle.warg_permissions.specs.OperatorPermissions.{same_permission, permission_text, permission_in}
-- the offences that operator logs alone have, and the names of all offences
pub use Rattle.warg_operator_log.specs.Namespaces.{OwnOffence, record_id_of}
pub use Rattle.warg_operator_log.specs.OffenceNames.{offence_name, error_name}
pub use Rattle.warg_registry.specs.KebabNames.{IsKebabName}
-- the namespaces that a state shows
pub use Rattle.warg_operator_log.specs.Namespaces.{Namespace, Defined, Imported, names}
pub use Rattle.warg_operator_log.specs.NamespaceMap.{namespace_view, HasKebabNames}
-- what the history of a log says
pub use Rattle.warg_operator_log.specs.StateHistory.{TellsHistory, OneEntryEach, records_of, history, namespaces_of}
-- what a state is written as in JSON, what JSON is read as, and that what was written reads back equal
pub use Rattle.warg_operator_log.specs.SavedState.{state_json, state_in}
pub use Rattle.warg_operator_log.specs.SavedBack.{AreEqual}
