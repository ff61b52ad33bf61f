-- Members that may be missing.
use Rattle.std.specs.Prelude.{◌≡◌, ⊤, ℕ, List, Option, Some, None, Result, Ok}
use Rattle.serde_json.specs.Data.{Data, Members, null, boolean, number, string, array, object, put}
use Rattle.serde_json.specs.Find.{get_member}
use Rattle.warg_crypto.specs.declared.json.error.JsonError.{JsonError}
use Rattle.warg_crypto.specs.Json.Json.{◌>>=◌, members_in, json_result}

-- what is there, where null is none
abbrev pub unless_null : Data → Option Data
unless_null null = None
unless_null (boolean b) = Some (boolean b)
unless_null (number n) = Some (number n)
unless_null (string t) = Some (string t)
unless_null (array ds) = Some (array ds)
unless_null (object ms) = Some (object ms)

-- the value of what is there, if anything is
abbrev pub some_read : {A : Type 0} → (Data → Result A JsonError) → Option Data → Result (Option A) JsonError
some_read reads None = Ok None
some_read reads (Some d) = reads d >>= λ x. json_result (Some x)

-- the value of what may be missing, where null is none
abbrev pub optional : {A : Type 0} → (Data → Result A JsonError) → Option Data → Result (Option A) JsonError
optional reads None = Ok None
optional reads (Some d) = some_read reads (unless_null d)

-- the value of the member of that name, which may be missing, of a value that is an object
abbrev pub optional_member : {A : Type 0} → (Data → Result A JsonError) → List ℕ → Data → Result (Option A) JsonError
optional_member reads name d = members_in d >>= λ ms. optional reads (get_member name ms)

-- the JSON of what is there
abbrev pub option_json : {A : Type 0} → (A → Result Data JsonError) → Option A → Result (Option Data) JsonError
option_json writes None = Ok None
option_json writes (Some x) = writes x >>= λ d. json_result (Some d)

-- the members, with d at that name if it is there
abbrev pub put_some : List ℕ → Option Data → Members → Members
put_some name None ms = ms
put_some name (Some d) ms = put name d ms

-- the members, with the JSON of x at that name
abbrev pub put_json : {A : Type 0} → (A → Result Data JsonError) → List ℕ → A → Members → Result Members JsonError
put_json writes name x ms = writes x >>= λ d. json_result (put name d ms)

-- the members, with the JSON of what is there at that name
abbrev pub put_option : {A : Type 0} → (A → Result Data JsonError) → List ℕ → Option A → Members
    → Result Members JsonError
put_option writes name o ms = option_json writes o >>= λ d. json_result (put_some name d ms)

-- both are missing, or the values are the same
abbrev pub SameOptions : {A : Type 0} → (A → A → Type 0) → Option A → Option A → Type 0
SameOptions same None None = ⊤
SameOptions same (Some x) (Some y) = same x y
SameOptions same None (Some y) = ⊥
SameOptions same (Some x) None = ⊥

-- what d reads as, where it may be missing, is the same as o
pub record OptionReadsBack {A : Type 0} (reads : Data → Result A JsonError) (same : A → A → Type 0) (o : Option A) (d : Option Data) : Type 0 where
  pub again : Option A
  pub is : optional reads d ≡ Ok again
  pub equal : SameOptions same o again
