-- What is read of the JSON that comes next in a text.
use Rattle.std.specs.Prelude.{ℕ, ◌≡◌, ◌<◌, List, length, Some, None, Result, Ok, Err, MatchResult}
use Rattle.json.specs.Token.{Token}
use Rattle.json.specs.Json.{value}
use Rattle.serde_json.specs.Data.{Data}
use Rattle.serde_json.specs.Read.{converted, of_json}
use Rattle.warg_crypto.specs.Json.Json.{Returns}
use Rattle.warg_crypto.specs.declared.json.error.JsonError.{JsonError}
use Rattle.warg_crypto.specs.declared.json.error.JsonError.TheVariants as json
use Rattle.warg_saved_states.specs.Asked.{IsAskedOf, fault_of}
use Rattle.warg_saved_states.specs.JsonText.{or_fault}
use Rattle.warg_saved_states.specs.declared.error.JsonTextError.{JsonTextError}
use Rattle.warg_saved_states.specs.declared.error.ReadFault.{ReadFault}
use Rattle.warg_saved_states.specs.declared.error.ReadFault.TheVariants.{NotJson, OutOfMemory}

-- r is what is read of the value that comes next, or its first fault, and what follows is left
pub record IsNext {X Y : Type 0} (view : X → Y) (reads : Data → Result Y JsonError) (depth : ℕ) (old new : List Token)
    (r : Result X JsonError) : Type 0 where
  pub json : Data
  pub text : converted of_json (value depth old) ≡ Some (json, new)
  pub read : Returns view r (reads json)
  pub shorter : length new < length old

-- So it is, unless no value comes next or memory ran out. The arrays and objects of the value may nest that deep.
abbrev pub ReadsNext : {X Y : Type 0} → (X → Y) → (Data → Result Y JsonError) → ℕ → Result (Result X JsonError) ReadFault
    → List Token → List Token → Type 0
ReadsNext view reads depth result old new =
    MatchResult result (λ r. IsNext view reads depth old new r) (λ e. e ≡ NotJson → converted of_json (value depth old) ≡ None)

-- out of memory stands apart from the faults of a value
abbrev pub apart_memory : {X : Type 0} → Result X JsonError → Result (Result X JsonError) ReadFault
apart_memory (Ok x) = Ok (Ok x)
apart_memory (Err json.OutOfMemory) = Err OutOfMemory
apart_memory (Err e) = Ok (Err e)

-- what is read of JSON is read of what is asked of it too: the members of those names, as far as n objects inside one another
abbrev pub AsksFor : {A : Type 0} → List (List ℕ) → ℕ → (Data → Result A JsonError) → Type 0
AsksFor names n reads = (d v : Data) → IsAskedOf names n d v → reads v ≡ reads d

-- what was read, or the fault of the text
abbrev pub value_or_fault : {X : Type 0} → Result (Result X JsonError) ReadFault → Result X JsonTextError
value_or_fault (Ok r) = or_fault r
value_or_fault (Err e) = Err (fault_of e)
