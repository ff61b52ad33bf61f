-- The JSON of times, which are written as their text.
use Rattle.std.specs.Prelude.{Result}
use Rattle.serde_json.specs.Data.{Data, string}
use Rattle.warg_crypto.specs.declared.json.error.JsonError.{JsonError}
use Rattle.warg_crypto.specs.Json.Json.{◌>>=◌, text_in, json_result}
use Rattle.warg_crypto.specs.Time.Times.{Time}
use Rattle.warg_crypto.specs.Time.TimeText.{time_of, time_text}

-- a time: its text; a time before the epoch has none
abbrev pub time_json : Time → Result Data JsonError
time_json t = time_text t >>= λ text. json_result (string text)

-- the time that a JSON text spells, or the fault
abbrev pub time_in : Data → Result Time JsonError
time_in d = text_in d >>= λ text. time_of text
