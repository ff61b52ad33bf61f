-- The JSON of proofs: their texts.
use Rattle.std.specs.Prelude.{ℕ, List, Result}
use Rattle.serde_json.specs.Data.{Data, string}
use Rattle.warg_crypto.specs.Json.Json.{◌>>=◌, or_bad_text, text_in, json_result}
use Rattle.warg_crypto.specs.declared.json.error.JsonError.{JsonError}
use Rattle.warg_transparency.specs.Texts.{log_proof_of, log_proof_text, map_proof_of, map_proof_text}

-- a proof on a log: its text
abbrev pub log_proof_json : List (List ℕ) → Result Data JsonError
log_proof_json hashes = json_result (string (log_proof_text hashes))

-- the proof on a log that a JSON text is of, or the fault
abbrev pub log_proof_in : Data → Result (List (List ℕ)) JsonError
log_proof_in d = text_in d >>= λ text. or_bad_text (log_proof_of text)

-- a proof on a map: its text
abbrev pub map_proof_json : List (List ℕ) → Result Data JsonError
map_proof_json path = json_result (string (map_proof_text path))

-- the proof on a map that a JSON text is of, or the fault
abbrev pub map_proof_in : Data → Result (List (List ℕ)) JsonError
map_proof_in d = text_in d >>= λ text. or_bad_text (map_proof_of text)
