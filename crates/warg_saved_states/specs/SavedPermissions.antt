-- Sets of permissions as lists of their names.
use Rattle.std.specs.Prelude.{ℕ, List, [], map, Bool, Option, Some, None, Result, Ok, Err}
use Rattle.indexmap.specs.IndexSet.{insert_key}
use Rattle.serde_json.specs.Data.{Data, Items, no_items, item, array, string}
use Rattle.serde_json.specs.View.{items_of}
use Rattle.warg_crypto.specs.declared.json.error.JsonError.{JsonError}
use Rattle.warg_crypto.specs.declared.json.error.JsonError.TheVariants as fault
use Rattle.warg_crypto.specs.Json.Json.{◌>>=◌, items_in, some_or, text_in, json_result}

module _ {P : Type 0} (text_of : P → List ℕ) where
  -- the names of the permissions
  abbrev pub permissions_json : List P → Result Data JsonError
  permissions_json ps = json_result (array (items_of (map (λ p. string (text_of p)) ps)))

module _ {P : Type 0} (same : P → P → Bool) (named : List ℕ → Option P) where
  -- the permission that a JSON text names, or the fault
  abbrev pub permission_in : Data → Result P JsonError
  permission_in d = text_in d >>= λ text. some_or fault.BadText (named text)

  -- the permissions that are named, after those read before; repeats fall together
  abbrev pub permissions_from : List P → Items → Result (List P) JsonError
  permissions_from done no_items = Ok done
  permissions_from done (item d more) = permission_in d >>= λ p. permissions_from (insert_key same done p) more

  -- so, unless there was a fault before
  abbrev pub permissions_after : Option JsonError → List P → Items → Result (List P) JsonError
  permissions_after None done ds = permissions_from done ds
  permissions_after (Some e) done ds = Err e

  -- the permissions that a JSON array names, each once, or the first fault
  abbrev pub permissions_in : Data → Result (List P) JsonError
  permissions_in d = items_in d >>= permissions_from []
