-- What content bytes say as a record of a package log.
use Rattle.std.specs.Prelude.{ℕ, List, Option, Result, Ok}
use Rattle.semver.specs.Parse.{version_parts}
use Rattle.warg_crypto.specs.HashText.{hash_of}
use Rattle.warg_protobuf.specs.PackageEntry.{PackageMember}
use Rattle.warg_protobuf.specs.PackageRecord as message
use Rattle.warg_protobuf.specs.Release.{ReleaseValue}
use Rattle.warg_protobuf.specs.Yank.{YankValue}
use Rattle.warg_envelope.specs.Faults.{RecordFault, Version, ContentHash}
use Rattle.warg_log_records.specs.RecordData.{EntryData, RecordData}
use Rattle.warg_log_records.specs.RecordReading.{◌>>=◌, map_fault, entry_in, decoded_record}
use Rattle.warg_log_records.specs.PackageEntries.{VersionParts, PackageOwnEntry}
use Rattle.warg_log_records.specs.PackageEntries as plain
use Rattle.warg_permissions.specs.PackagePermissions.{permission_of}
use Rattle.warg_permissions.specs.declared.package.Permission.{Permission}

-- the version that a text says, or that it is none
abbrev pub version_of : List ℕ → Result VersionParts RecordFault
version_of text = map_fault (λ e. Version) (version_parts text)

-- the release that its message says, or its first fault: of the version, then of the content's hash
abbrev pub release_of : ReleaseValue → Result PackageOwnEntry RecordFault
release_of m = do
  version ← version_of m.version
  content ← map_fault ContentHash (hash_of m.content_hash)
  Ok (plain.Release version content)

-- the yank that its message says, or the fault of its version
abbrev pub yank_of : YankValue → Result PackageOwnEntry RecordFault
yank_of m = version_of m.version >>= λ version. Ok (plain.Yank version)

-- what an entry's message says
abbrev pub package_entry_of : Option PackageMember → Result (EntryData Permission PackageOwnEntry) RecordFault
package_entry_of o = entry_in permission_of release_of yank_of o

-- what content bytes say, or their first fault
unfoldable pub package_record_of : List ℕ → Result (RecordData Permission PackageOwnEntry) RecordFault
package_record_of content = decoded_record package_entry_of (message.package_record_of content)
