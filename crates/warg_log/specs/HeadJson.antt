-- The JSON of a head: `digest`, `timestamp`, and `version` unless it is 0.
use Rattle.std.specs.Prelude.{◌^◌, ℕ, ◌==◌, codes, if◌then◌else◌, Option, Some, None, Result, Ok}
use Rattle.serde_json.specs.Data.{Data, no_members, object}
use Rattle.serde_json.specs.Find.{get_member}
use Rattle.warg_crypto.specs.Json.Json.{◌>>=◌, member_in, members_in, json_result}
use Rattle.warg_crypto.specs.Time.TimeJson.{time_in, time_json}
use Rattle.warg_crypto.specs.Json.Members.{put_json, put_option}
use Rattle.warg_crypto.specs.Json.Numbers.{number_below, number_json}
use Rattle.warg_crypto.specs.declared.json.error.JsonError.{JsonError}
use Rattle.warg_log_records.specs.RecordIdJson.{record_id_in, record_id_json}
use Rattle.warg_log.specs.declared.head.Head.{Head}

-- 0 is left out
abbrev pub unless_zero : ℕ → Option ℕ
unless_zero n = if n == 0 then None else Some n

-- how a head is saved: its record's id and time, and its version unless that is 0
abbrev pub head_json : Head → Result Data JsonError
head_json h = do
  digest ← put_json record_id_json (codes "digest") h.digest no_members
  timestamp ← put_json time_json (codes "timestamp") h.timestamp digest
  members ← put_option number_json (codes "version") (unless_zero h.version) timestamp
  json_result (object members)

-- a version that is missing is 0
abbrev pub version_or_zero : Option Data → Result ℕ JsonError
version_or_zero None = Ok 0
version_or_zero (Some d) = number_below (2 ^ 32) d

-- the version of a saved head, or why it has none that can be taken
abbrev pub version_in : Data → Result ℕ JsonError
version_in d = members_in d >>= λ members. version_or_zero (get_member (codes "version") members)

-- the head that was saved, or the first fault in it
abbrev pub head_in : Data → Result Head JsonError
head_in d = do
  id ← member_in (codes "digest") d
  digest ← record_id_in id
  time ← member_in (codes "timestamp") d
  timestamp ← time_in time
  version ← version_in d
  json_result (record { digest = digest; timestamp = timestamp; version = version })
