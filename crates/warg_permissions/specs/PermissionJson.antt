-- The JSON of permissions: their text.
use Rattle.std.specs.Prelude.{ℕ, List, Option, Result}
use Rattle.serde_json.specs.Data.{Data, string}
use Rattle.warg_crypto.specs.Json.Json.{◌>>=◌, or_bad_text, text_in, json_result}
use Rattle.warg_crypto.specs.declared.json.error.JsonError.{JsonError}
use Rattle.warg_permissions.specs.Permissions.{named_or}

-- a permission: its text
abbrev pub permission_json : {P : Type 0} → (P → List ℕ) → P → Result Data JsonError
permission_json text_of p = json_result (string (text_of p))

-- any other text is outside the grammar
abbrev pub permission_from : {P : Type 0} → (List ℕ → Option P) → Data → Result P JsonError
permission_from named d = text_in d >>= λ text. or_bad_text (named_or (named text))
