-- Messages: the fields of each, which bytes are one, and which fault other bytes have.
-- the envelope's fields, and what a message's bytes give
pub use Rattle.warg_protobuf.specs.Envelope.{EnvelopeValue, IsEnvelope, envelope_of, envelope_table, envelope_view, envelope_bytes, borrowed_envelope}
pub use Rattle.warg_protobuf.specs.Table.{Table, HasFault, ExactlyOne}
pub use Rattle.warg_protobuf.specs.Meaning.{Computes, GivesValues, HasOneAnswer}
pub use Rattle.warg_protobuf.specs.Reading.{Returns}
pub use Rattle.warg_protobuf.specs.Views.{option_view}
-- varints
pub use Rattle.warg_protobuf.specs.Varint.{IsVarint}
pub use Rattle.warg_protobuf.specs.Writing.{varint_of}
-- entries and records: each one's table of fields, what the bytes say, and a message as plain data
pub use Rattle.warg_protobuf.specs.Init.{IsInit, init_of, init_table, init_view}
pub use Rattle.warg_protobuf.specs.GrantFlat.{IsGrantFlat, grant_flat_of, grant_flat_table, grant_flat_view}
pub use Rattle.warg_protobuf.specs.RevokeFlat.{IsRevokeFlat, revoke_flat_of, revoke_flat_table, revoke_flat_view}
pub use Rattle.warg_protobuf.specs.Release.{IsRelease, release_of, release_table, release_view}
pub use Rattle.warg_protobuf.specs.Yank.{IsYank, yank_of, yank_table, yank_view}
pub use Rattle.warg_protobuf.specs.DefineNamespace.{IsDefineNamespace, define_namespace_of, define_namespace_table, define_namespace_view}
pub use Rattle.warg_protobuf.specs.ImportNamespace.{IsImportNamespace, import_namespace_of, import_namespace_table, import_namespace_view}
pub use Rattle.warg_protobuf.specs.Timestamp.{IsTimestamp, timestamp_of, timestamp_table, timestamp_view}
pub use Rattle.warg_protobuf.specs.PackageEntry.{IsPackageEntry, package_entry_of, package_entry_table, package_entry_view, package_member_view}
pub use Rattle.warg_protobuf.specs.OperatorEntry.{IsOperatorEntry, operator_entry_of, operator_entry_table, operator_entry_view, operator_member_view}
pub use Rattle.warg_protobuf.specs.PackageRecord.{IsPackageRecord, package_record_of, package_record_table, package_record_view}
pub use Rattle.warg_protobuf.specs.OperatorRecord.{IsOperatorRecord, operator_record_of, operator_record_table, operator_record_view}
-- the messages of entries and records, of whose equality a law speaks
pub use Rattle.warg_protobuf.specs.declared.init.Init.{Init}
pub use Rattle.warg_protobuf.specs.declared.grant_flat.GrantFlat.{GrantFlat}
pub use Rattle.warg_protobuf.specs.declared.revoke_flat.RevokeFlat.{RevokeFlat}
pub use Rattle.warg_protobuf.specs.declared.release.PackageRelease.{PackageRelease}
pub use Rattle.warg_protobuf.specs.declared.yank.PackageYank.{PackageYank}
pub use Rattle.warg_protobuf.specs.declared.define_namespace.OperatorDefineNamespace.{OperatorDefineNamespace}
pub use Rattle.warg_protobuf.specs.declared.import_namespace.OperatorImportNamespace.{OperatorImportNamespace}
pub use Rattle.warg_protobuf.specs.declared.timestamp.TimestampPair.{TimestampPair}
pub use Rattle.warg_protobuf.specs.declared.package_entry.Contents.{Contents as PackageContents}
pub use Rattle.warg_protobuf.specs.declared.package_entry.PackageEntry.{PackageEntry}
pub use Rattle.warg_protobuf.specs.declared.operator_entry.Contents.{Contents as OperatorContents}
pub use Rattle.warg_protobuf.specs.declared.operator_entry.OperatorEntry.{OperatorEntry}
pub use Rattle.warg_protobuf.specs.declared.record.Record.{Record}
