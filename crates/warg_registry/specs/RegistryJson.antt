-- The JSON of what a registry names things by.
use Rattle.std.specs.Prelude.{ℕ, List, codes, if◌then◌else◌, Result, Ok, Err}
use Rattle.serde_json.specs.Data.{Data, no_members, object, string}
use Rattle.warg_crypto.specs.Json.Json.{◌>>=◌, member_in, text_in, json_result}
use Rattle.warg_crypto.specs.Json.JsonTexts.{hash_in, hash_json}
use Rattle.warg_crypto.specs.Json.Members.{put_json}
use Rattle.warg_crypto.specs.Json.Numbers.{number_in, number_json}
use Rattle.warg_crypto.specs.declared.json.error.JsonError.{JsonError}
use Rattle.warg_crypto.specs.declared.json.error.JsonError.TheVariants as fault
use Rattle.warg_registry.specs.declared.checkpoint.Checkpoint.{Checkpoint}
use Rattle.warg_registry.specs.declared.checkpoint.TimestampedCheckpoint.{TimestampedCheckpoint}
use Rattle.warg_registry.specs.declared.leaf.LogLeaf.{LogLeaf}
use Rattle.warg_registry.specs.declared.log_id.LogId.{LogId}
use Rattle.warg_log_records.specs.RecordIdJson.{record_id_in, record_id_json}
use Rattle.warg_registry.specs.KebabNames.{is_package_name}

-- the id of a log: the text of its hash
abbrev pub log_id_json : LogId → Result Data JsonError
log_id_json id = hash_json id.hash

-- the id of a log that a JSON text spells, or the fault
abbrev pub log_id_in : Data → Result LogId JsonError
log_id_in d = hash_in d >>= λ hash. json_result (record { hash = hash })

-- a package name: its text
abbrev pub package_name_json : List ℕ → Result Data JsonError
package_name_json name = json_result (string name)

-- the text, unless it is no package name
abbrev pub package_name_of : List ℕ → Result (List ℕ) JsonError
package_name_of text = if is_package_name text then Ok text else Err fault.BadText

-- the package name that a JSON text is, or the fault
abbrev pub package_name_in : Data → Result (List ℕ) JsonError
package_name_in d = text_in d >>= package_name_of

-- a checkpoint: `logRoot`, `logLength`, `mapRoot`
abbrev pub checkpoint_json : Checkpoint → Result Data JsonError
checkpoint_json c = do
  log_root ← put_json hash_json (codes "logRoot") c.log_root no_members
  log_length ← put_json number_json (codes "logLength") c.log_length log_root
  members ← put_json hash_json (codes "mapRoot") c.map_root log_length
  json_result (object members)

-- the checkpoint that the JSON says, or its first fault
abbrev pub checkpoint_in : Data → Result Checkpoint JsonError
checkpoint_in d = do
  log ← member_in (codes "logRoot") d
  log_root ← hash_in log
  len ← member_in (codes "logLength") d
  log_length ← number_in len
  map ← member_in (codes "mapRoot") d
  map_root ← hash_in map
  json_result (record { log_root = log_root; log_length = log_length; map_root = map_root })

-- a timestamped checkpoint: the three of a checkpoint, and `timestamp` as a number
abbrev pub timestamped_checkpoint_json : TimestampedCheckpoint → Result Data JsonError
timestamped_checkpoint_json t = do
  log_root ← put_json hash_json (codes "logRoot") t.checkpoint.log_root no_members
  log_length ← put_json number_json (codes "logLength") t.checkpoint.log_length log_root
  map_root ← put_json hash_json (codes "mapRoot") t.checkpoint.map_root log_length
  members ← put_json number_json (codes "timestamp") t.timestamp map_root
  json_result (object members)

-- the timestamped checkpoint that the JSON says, or its first fault
abbrev pub timestamped_checkpoint_in : Data → Result TimestampedCheckpoint JsonError
timestamped_checkpoint_in d = do
  checkpoint ← checkpoint_in d
  time ← member_in (codes "timestamp") d
  timestamp ← number_in time
  json_result (record { checkpoint = checkpoint; timestamp = timestamp })

-- a leaf of the log: `logId`, `recordId`
abbrev pub log_leaf_json : LogLeaf → Result Data JsonError
log_leaf_json l = do
  log_id ← put_json log_id_json (codes "logId") l.log_id no_members
  members ← put_json record_id_json (codes "recordId") l.record_id log_id
  json_result (object members)

-- the leaf of the log that the JSON says, or its first fault
abbrev pub log_leaf_in : Data → Result LogLeaf JsonError
log_leaf_in d = do
  log ← member_in (codes "logId") d
  log_id ← log_id_in log
  id ← member_in (codes "recordId") d
  record_id ← record_id_in id
  json_result (record { log_id = log_id; record_id = record_id })
