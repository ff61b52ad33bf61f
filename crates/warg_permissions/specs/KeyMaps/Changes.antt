-- When changes can be laid over a map with no more memory.
use Rattle.std.specs.Prelude.{◌<◌, ◌≤◌}
use Rattle.indexmap.specs.IndexMap.{IndexMap, index_map_len, spare}

-- the greater of the two has room for the entries of the other
abbrev pub HasRoomFor : {K X S : Type 0} → IndexMap K X S → IndexMap K X S → Type 0
HasRoomFor map changes = (index_map_len map < index_map_len changes → index_map_len map ≤ spare changes) × (index_map_len changes ≤ index_map_len map → index_map_len changes ≤ spare map)
