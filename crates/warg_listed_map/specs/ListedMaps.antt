-- The map of a list of entries.
use Rattle.std.specs.Prelude.{◌≡◌, ◌≢◌, ◌≤◌, ℕ, List, Option, None}
use Rattle.std.specs.List.{Contains}
use Rattle.sha2.specs.Sha256.{sha256}
use Rattle.warg_merkle.specs.Trees.{Side}
use Rattle.warg_merkle.specs.SparseMap.Maps.{value_input}
use Rattle.warg_listed_map.specs.declared.entry.Entry.{Entry}

-- the entry is among those, and none of them has a later place
pub record IsLatest (entries : List Entry) (e : Entry) : Type 0 where
  pub among : Contains entries e
  pub latest : (o : Entry) → Contains entries o → o.place ≤ e.place

-- the same of the entries whose keys have its way
pub record StandsAt (way : List ℕ → List Side) (entries : List Entry) (e : Entry) : Type 0 where
  pub among : Contains entries e
  pub latest : (o : Entry) → Contains entries o → way o.key ≡ way e.key → o.place ≤ e.place

-- the map has the leaf of the entry that stands at each way, and nothing else
pub record IsMapOf (way : List ℕ → List Side) (entries : List Entry) (m : List Side → Option (List ℕ)) : Type 0 where
  pub leaf : (e : Entry) → StandsAt way entries e → sha256 (value_input (m (way e.key))) ≡ e.leaf
  pub none : (at : List Side) → ((e : Entry) → Contains entries e → way e.key ≢ at) → m at ≡ None
