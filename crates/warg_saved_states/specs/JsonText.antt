-- What is read of a text of JSON.
use Rattle.std.specs.Prelude.{ℕ, ◌≡◌, List, Option, Some, None, Result, Ok, Err}
use Rattle.serde_json.specs.Data.{Data}
use Rattle.serde_json.specs.Read.{read}
use Rattle.warg_crypto.specs.OutcomeResults.{ReturnsOr}
use Rattle.warg_crypto.specs.declared.json.error.JsonError.{JsonError}
use Rattle.warg_crypto.specs.declared.json.error.JsonError.TheVariants as json
use Rattle.warg_saved_states.specs.declared.error.JsonTextError.{JsonTextError}
use Rattle.warg_saved_states.specs.declared.error.JsonTextError.TheVariants.{NotJson, OutOfMemory, Value}

-- a fault of a text's value; out of memory stays out of memory
abbrev pub text_fault : JsonError → JsonTextError
text_fault json.OutOfMemory = OutOfMemory
text_fault e = Value e

-- what is read of a text's value, or the text's fault
abbrev pub or_fault : {A : Type 0} → Result A JsonError → Result A JsonTextError
or_fault (Ok x) = Ok x
or_fault (Err e) = Err (text_fault e)

-- what is read of a text's JSON, or that the text is none
abbrev pub of_json_in : {A : Type 0} → (Data → Result A JsonError) → Option Data → Result A JsonTextError
of_json_in reads None = Err NotJson
of_json_in reads (Some d) = or_fault (reads d)

-- what is read of the text's JSON
abbrev pub in_text : {A : Type 0} → (Data → Result A JsonError) → List ℕ → Result A JsonTextError
in_text reads text = of_json_in reads (read text)

-- What the text reads as is equivalent to x.
pub record TextReadsBack {A : Type 0} (reads : Data → Result A JsonError) (equivalent : A → A → Type 0) (x : A) (text : List ℕ)
    : Type 0 where
  pub again : A
  pub is : in_text reads text ≡ Ok again
  pub equal : equivalent x again

-- r, seen by view, is want, unless memory ran out
abbrev pub ReturnsOfText : {X Y : Type 0} → (X → Y) → Result X JsonTextError → Result Y JsonTextError → Type 0
ReturnsOfText view r want = ReturnsOr OutOfMemory view r want
