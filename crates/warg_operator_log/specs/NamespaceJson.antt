-- The JSON of what a namespace is.
use Rattle.std.specs.Prelude.{ℕ, ◌==◌, List, length, codes, if◌then◌else◌, Option, Some, None, Result, Ok, Err}
use Rattle.std.specs.Str.{bytes_eq}
use Rattle.serde_json.specs.Data.{Data, Members, no_members, object, put, string}
use Rattle.serde_json.specs.Find.{as_object, as_str}
use Rattle.warg_crypto.specs.Json.Json.{◌>>=◌, member_in, or_bad_text, text_in, json_result}
use Rattle.warg_crypto.specs.Json.Members.{put_json}
use Rattle.warg_crypto.specs.Json.Pairs.{names_of}
use Rattle.warg_crypto.specs.declared.json.error.JsonError.{JsonError}
use Rattle.warg_crypto.specs.declared.json.error.JsonError.TheVariants as fault
use Rattle.warg_operator_log.specs.Namespaces.{Namespace, Defined, Imported}

-- `"defined"`, or `{"imported":{"registry":..}}`
abbrev pub namespace_json : Namespace → Result Data JsonError
namespace_json Defined = json_result (string (codes "defined"))
namespace_json (Imported registry) = json_result (object (put (codes "imported") (object (put (codes "registry") (string registry) no_members)) no_members))

-- any other text is outside the grammar
abbrev pub defined_in : List ℕ → Result Namespace JsonError
defined_in text = if bytes_eq text (codes "defined") then Ok Defined else Err fault.BadText

-- the value of the member `imported`, where it is the only one
abbrev pub only_imported : Data → Members → Result Data JsonError
only_imported d members = if length (names_of members) == 1 then or_bad_text (member_in (codes "imported") d) else Err fault.BadText

-- an imported namespace as it was saved, with the name of its registry
abbrev pub imported_in : Data → Members → Result Namespace JsonError
imported_in d members = only_imported d members >>= λ imported. member_in (codes "registry") imported >>= λ name. text_in name >>= λ registry. json_result (Imported registry)

-- of a value that is a text or an object
abbrev pub namespace_of : Data → Option (List ℕ) → Option Members → Result Namespace JsonError
namespace_of d (Some text) members = defined_in text
namespace_of d None (Some members) = imported_in d members
namespace_of d None None = Err fault.WrongType

-- what a namespace is, by a text if it is defined and by an object if it is imported
abbrev pub namespace_in : Data → Result Namespace JsonError
namespace_in d = namespace_of d (as_str d) (as_object d)

-- a namespace of a state: `{"state":..}`
abbrev pub saved_namespace_json : Namespace → Result Data JsonError
saved_namespace_json n = put_json namespace_json (codes "state") n no_members >>= λ members. json_result (object members)

-- a namespace that was saved, or the first fault in it
abbrev pub saved_namespace_in : Data → Result Namespace JsonError
saved_namespace_in d = member_in (codes "state") d >>= λ state. namespace_in state
