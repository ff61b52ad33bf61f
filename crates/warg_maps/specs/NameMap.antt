-- How the parts of a map agree, and what an insert leaves.
use Rattle.std.specs.Prelude.{◌≡◌, ℕ, ◌<◌, ◌≤◌, Bool, List, Option, length, map, min, slice_index_or}
use Rattle.std.specs.List.{IsDistinct, position_or_len}
use Rattle.std.specs.Map.{keys_of, lookup}
use Rattle.std.specs.declared.cmp.Ordering.{Ordering}
use Rattle.indexmap.specs.IndexMap.{insert_entry}
use Rattle.warg_maps.specs.declared.index.Index.{Index}
use Rattle.warg_maps.specs.Buckets.{free}
use Rattle.warg_maps.specs.Index.{HasEntry}

-- how many entries fit, where the keys, the values and the hashes have these capacities
unfoldable pub room_of : ℕ → ℕ → ℕ → ℕ
room_of keys values hashes = min (min keys values) (min hashes free)

-- no two keys are equal, and each has its hash and its place
pub record IsWhole {K : Type 0} (eq : K → K → Bool) (cmp : K → K → Ordering) (hash far : K → ℕ) (index : Index K) (hashes : List ℕ) (keys : List K) : Type 0 where
  pub distinct : IsDistinct eq keys
  pub hashed : hashes ≡ map hash keys
  pub placed : (i : ℕ) (d : K) → i < length keys → let k = slice_index_or keys i d in HasEntry cmp index (hash k) (far k) k i
  pub small : length keys ≤ free

-- fs is es with v put at k: its place is i, and `old` stood there
pub record Puts {K X : Type 0} (eq : K → K → Bool) (es fs : List (K × X)) (k : K) (v : X) (i : ℕ) (old : Option X) : Type 0 where
  pub place : i ≡ position_or_len (eq k) (keys_of es)
  pub within : i < length fs
  pub before : old ≡ lookup (eq k) es
  pub entries : fs ≡ insert_entry eq es k v
