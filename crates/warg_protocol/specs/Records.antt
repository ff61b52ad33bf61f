-- Records of either kind: their data, the texts of hashes and versions, the ids, the toy scheme, and the faults of reading.
-- records and entries as plain data
pub use Rattle.warg_log_records.specs.RecordData.{RecordData, EntryData, SharedEntry, plain_record}
-- hashes, the text of one, and of a version by its parts
pub use Rattle.warg_crypto.specs.declared.hash.AnyHash.{AnyHash}
pub use Rattle.warg_crypto.specs.HashText.{hash_text, hash_of, IsHashText, algorithm_text}
pub use Rattle.semver.specs.Identifiers.{parts_text}
-- the ids of records, from their content bytes
pub use Rattle.warg_log_records.specs.declared.record_id.RecordId.{RecordId}
pub use Rattle.warg_log_records.specs.RecordIds.{package_record_id_of, operator_record_id_of, id_by, id_of_text}
-- the relation of the toy scheme: which signature belongs to a key and a message
pub use Rattle.warg_crypto.specs.Signed.{toy_belongs}
-- what `decode` answers, the faults of a record's bytes, and their names
pub use Rattle.warg_crypto.specs.Coding.{IsDecoded}
pub use Rattle.warg_envelope.specs.Faults.{RecordFault, IsReading, decode_result, fault_of}
pub use Rattle.warg_envelope.specs.FaultNames.{record_fault_name, envelope_fault_name, error_name}
-- which content bytes are a record, or have a fault, and which records are written so that they read back
pub use Rattle.warg_log_records.specs.Relations.{ReadsRecord, IsRecord, HasRecordFault}
pub use Rattle.warg_log_records.specs.OfBytes.{IsOfContent, IsOfEnvelope}
pub use Rattle.warg_log_records.specs.RecordReading.{record_of}
pub use Rattle.warg_log_records.specs.Writing.{record_message}
pub use Rattle.warg_log_records.specs.WellFormed.{AreAnyEntries, IsReadable, IsWellFormed, IsWellFormedPackageOwnEntry, IsWellFormedOperatorOwnEntry}
-- permission sets and other lists of distinct items
pub use Rattle.warg_envelope.specs.Mentions.{distinct}
-- the content that an entry of a package log releases
pub use Rattle.warg_log_records.specs.PackageEntries.{content_of}
