-- Maps as members of an object.
use Rattle.std.specs.Prelude.{ℕ, List, Result}
use Rattle.serde_json.specs.Data.{Data, Members}
use Rattle.warg_crypto.specs.declared.json.error.JsonError.{JsonError}
use Rattle.warg_crypto.specs.Json.Json.{◌>>=◌, json_result}
use Rattle.warg_crypto.specs.Json.Members.{put_some}
use Rattle.warg_crypto.specs.Json.Pairs.{some_pairs_json}

-- the members, with the object of the pairs at that name, unless there are none
abbrev pub put_pairs : {K A : Type 0} → (K → List ℕ) → (A → Result Data JsonError) → List ℕ → List (K × A) → Members
    → Result Members JsonError
put_pairs name_of writes name es ms = some_pairs_json name_of writes es >>= λ d. json_result (put_some name d ms)
