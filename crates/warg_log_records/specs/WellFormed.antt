-- Which records read back as they are written. All of these facts but that on versions hold of every value of the
-- code's types; a version that was parsed reads back too.
use Rattle.std.specs.Prelude.{◌≡◌, pos, length, List, Option, Some, None, Ok}
use Rattle.std.specs.List.{AllByRecursion}
use Rattle.hex.specs.Hex.{IsBytes}
use Rattle.semver.specs.Identifiers.{parts_text}
use Rattle.semver.specs.Parse.{version_parts}
use Rattle.warg_crypto.specs.NamedBytes.{NamedBytes, IsName}
use Rattle.warg_crypto.specs.Time.Times.{Time, time_from}
use Rattle.warg_crypto.specs.declared.hash.AnyHash.{AnyHash}
use Rattle.warg_log_records.specs.RecordData.{SharedEntry, Init, GrantFlat, RevokeFlat, EntryData, Shared, Own, RecordData}
use Rattle.warg_log_records.specs.PackageEntries.{VersionParts, PackageOwnEntry, Release, Yank}
use Rattle.warg_log_records.specs.OperatorEntries.{OperatorOwnEntry}
use Rattle.warg_log_records.specs.declared.record_id.RecordId.{RecordId}

-- a hash of 32 bytes
pub record IsWellFormedHash (h : AnyHash) : Type 0 where
  pub size : length h.bytes ≡ 32
  pub bytes : IsBytes h.bytes

-- a key or a signature: a name, and bytes
pub record IsWellFormedNamedBytes (t : NamedBytes) : Type 0 where
  pub name : IsName t.name
  pub bytes : IsBytes t.bytes

-- a time in range, whose nanoseconds make no second
abbrev pub IsWellFormedTime : Time → Type 0
IsWellFormedTime t = time_from t.seconds (pos t.nanos) ≡ Ok t

-- the version's text reads back as the version
abbrev pub ReadsBack : VersionParts → Type 0
ReadsBack p = version_parts (parts_text p) ≡ Ok p

-- the id of the record before, if there is one, is a whole hash
abbrev pub IsWellFormedLink : Option RecordId → Type 0
IsWellFormedLink None = Unit {0}
IsWellFormedLink (Some id) = IsWellFormedHash id.hash

-- the key of an entry that both kinds have, if it has one, is whole
abbrev pub IsWellFormedSharedEntry : {P : Type 0} → SharedEntry P → Type 0
IsWellFormedSharedEntry (Init algorithm key) = IsWellFormedNamedBytes key
IsWellFormedSharedEntry (GrantFlat key permissions) = IsWellFormedNamedBytes key
IsWellFormedSharedEntry (RevokeFlat key_id permissions) = Unit {0}

-- the entry is whole, as one that both kinds have or as one that the kind alone has
abbrev pub IsWellFormedEntry : {P O : Type 0} → (O → Type 0) → EntryData P O → Type 0
IsWellFormedEntry IsWellFormedOwn (Shared entry) = IsWellFormedSharedEntry entry
IsWellFormedEntry IsWellFormedOwn (Own own) = IsWellFormedOwn own

-- each part of a record is whole
pub record IsWellFormed {P O : Type 0} (IsWellFormedOwn : O → Type 0) (s : RecordData P O) : Type 0 where
  pub prev : IsWellFormedLink s.prev
  pub time : IsWellFormedTime s.time
  pub entries : AllByRecursion (IsWellFormedEntry IsWellFormedOwn) s.entries

-- the version of a release or a yank reads back, and the hash of a release is whole
abbrev pub IsWellFormedPackageOwnEntry : PackageOwnEntry → Type 0
IsWellFormedPackageOwnEntry (Release version content) = ReadsBack version × IsWellFormedHash content
IsWellFormedPackageOwnEntry (Yank version) = ReadsBack version

-- any text is a namespace or a registry here, so nothing is asked
abbrev pub IsWellFormedOperatorOwnEntry : OperatorOwnEntry → Type 0
IsWellFormedOperatorOwnEntry own = Unit {0}

-- the text of the entry's version, if it has one, reads back
abbrev pub IsReadable : {P : Type 0} → EntryData P PackageOwnEntry → Type 0
IsReadable (Shared entry) = Unit {0}
IsReadable (Own (Release version content)) = ReadsBack version
IsReadable (Own (Yank version)) = ReadsBack version

-- any entries of an operator log: all of them read back
abbrev pub AreAnyEntries : {P : Type 0} → List (EntryData P OperatorOwnEntry) → Type 0
AreAnyEntries entries = Unit {0}
