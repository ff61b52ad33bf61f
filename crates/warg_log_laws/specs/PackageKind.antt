-- Package logs by their rules, and what content bytes are.
use Rattle.std.specs.Prelude.{ℕ, List}
use Rattle.warg_envelope.specs.Faults.{RecordFault}
use Rattle.warg_log_laws.specs.RuledLogs.{RuledBy}
use Rattle.warg_log_records.specs.PackageEntries.{PackageOwnEntry}
use Rattle.warg_log_records.specs.PackageReading.{package_entry_of, package_record_of}
use Rattle.warg_log_records.specs.RecordData.{RecordData}
use Rattle.warg_log_records.specs.Relations.{HasRecordFault, IsRecord}
use Rattle.warg_package_log.specs.ListedReleases.{listed_releases}
use Rattle.warg_package_log.specs.Releases.{rules}
use Rattle.warg_permissions.specs.PackagePermissions.{same_permission}
use Rattle.warg_permissions.specs.declared.package.Permission.{Permission}
use Rattle.warg_protobuf.specs.PackageRecord.{IsPackageRecord, package_record_table}

-- a package log, as one word
abbrev pub ruled : RuledBy rules same_permission package_record_of listed_releases
ruled = record {}

-- the content bytes are the record
abbrev pub IsContent : List ℕ → RecordData Permission PackageOwnEntry → Type 0
IsContent = IsRecord package_record_table IsPackageRecord package_entry_of

-- the content bytes are none, by their first fault
abbrev pub HasContentFault : List ℕ → RecordFault → Type 0
HasContentFault = HasRecordFault package_record_table IsPackageRecord package_entry_of
