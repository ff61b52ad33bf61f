-- The JSON of the ids of records.
use Rattle.std.specs.Prelude.{Result}
use Rattle.serde_json.specs.Data.{Data}
use Rattle.warg_crypto.specs.Json.Json.{◌>>=◌, json_result}
use Rattle.warg_crypto.specs.Json.JsonTexts.{hash_in, hash_json}
use Rattle.warg_crypto.specs.declared.json.error.JsonError.{JsonError}
use Rattle.warg_log_records.specs.declared.record_id.RecordId.{RecordId}

-- the id of a record: the text of its hash
abbrev pub record_id_json : RecordId → Result Data JsonError
record_id_json id = hash_json id.hash

-- the id of a record that a JSON text spells, or the fault
abbrev pub record_id_in : Data → Result RecordId JsonError
record_id_in d = hash_in d >>= λ hash. json_result (record { hash = hash })
