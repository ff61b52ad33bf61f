-- The JSON of a release and of what became of it.
use Rattle.std.specs.Prelude.{ℕ, List, codes, if◌then◌else◌, Result, Err}
use Rattle.std.specs.Str.{bytes_eq}
use Rattle.semver.specs.Identifiers.{parts_text}
use Rattle.semver.specs.Parse.{version_parts}
use Rattle.serde_json.specs.Data.{Data, Members, no_members, object, put, string}
use Rattle.warg_crypto.specs.Json.Json.{◌>>=◌, member_in, or_bad_text, text_in, json_result}
use Rattle.warg_crypto.specs.Json.JsonTexts.{hash_in, hash_json, key_id_in, key_id_json}
use Rattle.warg_crypto.specs.Time.TimeJson.{time_in, time_json}
use Rattle.warg_crypto.specs.Json.Members.{put_json}
use Rattle.warg_crypto.specs.declared.json.error.JsonError.{JsonError}
use Rattle.warg_crypto.specs.declared.json.error.JsonError.TheVariants as fault
use Rattle.warg_log_records.specs.PackageEntries.{VersionParts}
use Rattle.warg_log_records.specs.RecordIdJson.{record_id_in, record_id_json}
use Rattle.warg_package_log.specs.Releases.{ReleaseView}
use Rattle.warg_package_log.specs.declared.release.ReleaseState.{ReleaseState}
use Rattle.warg_package_log.specs.declared.release.ReleaseState.TheVariants.{Released, Yanked}

-- a version: its text
abbrev pub version_json : VersionParts → Result Data JsonError
version_json version = json_result (string (parts_text version))

-- the version that a JSON text spells, or why it spells none
abbrev pub version_in : Data → Result VersionParts JsonError
version_in d = text_in d >>= λ text. or_bad_text (version_parts text)

-- the first member of a state: `status`
abbrev pub status_member : List ℕ → Members
status_member status = put (codes "status") (string status) no_members

-- a state: `status`, which is `released` beside `content`, or `yanked` beside `by`, `timestamp`
abbrev pub release_state_json : ReleaseState → Result Data JsonError
release_state_json (Released content) = do
  members ← put_json hash_json (codes "content") content (status_member (codes "released"))
  json_result (object members)
release_state_json (Yanked by timestamp) = do
  id ← put_json key_id_json (codes "by") by (status_member (codes "yanked"))
  members ← put_json time_json (codes "timestamp") timestamp id
  json_result (object members)

-- a release that stands, with the hash of its content
abbrev pub released_in : Data → Result ReleaseState JsonError
released_in d = do
  hash ← member_in (codes "content") d
  content ← hash_in hash
  json_result (Released content)

-- a yanked release, with who yanked it and when
abbrev pub yanked_in : Data → Result ReleaseState JsonError
yanked_in d = do
  id ← member_in (codes "by") d
  by ← key_id_in id
  time ← member_in (codes "timestamp") d
  timestamp ← time_in time
  json_result (Yanked by timestamp)

-- any other status is outside the grammar
abbrev pub state_of : List ℕ → Data → Result ReleaseState JsonError
state_of status d =
    if bytes_eq status (codes "released") then released_in d
    else if bytes_eq status (codes "yanked") then yanked_in d
    else Err fault.BadText

-- the state of a release, by its `status`
abbrev pub release_state_in : Data → Result ReleaseState JsonError
release_state_in d = do
  tag ← member_in (codes "status") d
  status ← text_in tag
  state_of status d

-- a release: `recordId`, `version`, `by`, `timestamp`, `state`
abbrev pub release_json : ReleaseView → Result Data JsonError
release_json r = do
  record_id ← put_json record_id_json (codes "recordId") r.record_id no_members
  version ← put_json version_json (codes "version") r.version record_id
  by ← put_json key_id_json (codes "by") r.by version
  timestamp ← put_json time_json (codes "timestamp") r.timestamp by
  members ← put_json release_state_json (codes "state") r.state timestamp
  json_result (object members)

-- the release that was saved, or the first fault in it
abbrev pub release_in : Data → Result ReleaseView JsonError
release_in d = do
  place ← member_in (codes "recordId") d
  record_id ← record_id_in place
  text ← member_in (codes "version") d
  version ← version_in text
  id ← member_in (codes "by") d
  by ← key_id_in id
  time ← member_in (codes "timestamp") d
  timestamp ← time_in time
  inner ← member_in (codes "state") d
  state ← release_state_in inner
  json_result (record { record_id = record_id; version = version; by = by; timestamp = timestamp; state = state })
