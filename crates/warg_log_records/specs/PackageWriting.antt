-- Package records as messages.
use Rattle.std.specs.Prelude.{ℕ, ℤ, pos, List, Option}
use Rattle.semver.specs.Identifiers.{parts_text}
use Rattle.warg_crypto.specs.HashText.{hash_text}
use Rattle.warg_protobuf.specs.Entry.{FirstOwn, SecondOwn}
use Rattle.warg_protobuf.specs.PackageEntry.{PackageMember}
use Rattle.warg_protobuf.specs.PackageRecord.{package_record_bytes}
use Rattle.warg_protobuf.specs.Record.{RecordValue}
use Rattle.warg_log_records.specs.RecordData.{EntryData, RecordData}
use Rattle.warg_log_records.specs.Writing.{message_of_entry, record_message}
use Rattle.warg_log_records.specs.PackageEntries.{PackageOwnEntry, Release, Yank}
use Rattle.warg_permissions.specs.PackagePermissions.{number_of}
use Rattle.warg_permissions.specs.declared.package.Permission.{Permission}

-- the number of a permission in a message, where numbers have a sign
abbrev pub permission_number : Permission → ℤ
permission_number p = pos (number_of p)

-- the message of a release or of a yank
abbrev pub package_own_message : PackageOwnEntry → PackageMember
package_own_message (Release version content) = FirstOwn (record { version = parts_text version; content_hash = hash_text content })
package_own_message (Yank version) = SecondOwn (record { version = parts_text version })

-- the message of an entry
abbrev pub package_entry_message : EntryData Permission PackageOwnEntry → Option PackageMember
package_entry_message e = message_of_entry permission_number package_own_message e

-- the message of a record
abbrev pub package_record_message : RecordData Permission PackageOwnEntry → RecordValue (List (Option PackageMember))
package_record_message s = record_message package_entry_message s

-- the content bytes that are written of a record
unfoldable pub package_content_of : RecordData Permission PackageOwnEntry → List ℕ
package_content_of s = package_record_bytes (package_record_message s)
