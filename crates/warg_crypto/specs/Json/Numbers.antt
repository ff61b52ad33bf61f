-- The JSON of whole numbers.
use Rattle.std.specs.Prelude.{◌^◌, ℕ, nat_lt, if◌then◌else◌, Result, Ok, Err, option_and_then}
use Rattle.serde_json.specs.Data.{Data, number, unsigned}
use Rattle.serde_json.specs.Find.{as_number, as_u64}
use Rattle.warg_crypto.specs.declared.json.error.JsonError.{JsonError}
use Rattle.warg_crypto.specs.declared.json.error.JsonError.TheVariants as fault
use Rattle.warg_crypto.specs.Json.Json.{◌>>=◌, some_or, json_result}

-- the number, where it is below the bound; else it is of the wrong type
abbrev pub in_range : ℕ → ℕ → Result ℕ JsonError
in_range bound n = if nat_lt n bound then Ok n else Err fault.WrongType

-- the whole number of a value, below the bound
abbrev pub number_below : ℕ → Data → Result ℕ JsonError
number_below bound d = some_or fault.WrongType (option_and_then as_u64 (as_number d)) >>= in_range bound

-- the whole number of 64 bits that a value is, or the fault
abbrev pub number_in : Data → Result ℕ JsonError
number_in d = number_below (2 ^ 64) d

-- a whole number as JSON
abbrev pub number_json : ℕ → Result Data JsonError
number_json n = json_result (number (unsigned n))
