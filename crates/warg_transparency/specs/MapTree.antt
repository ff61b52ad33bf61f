-- The map of a registry, as its tree has it.
use Rattle.std.specs.Prelude.{ℕ, List, Option}
use Rattle.warg_merkle.specs.Trees.{Side}
use Rattle.warg_merkle.specs.SparseMap.Maps.{way_down}
use Rattle.warg_merkle.specs.SparseTree.SparseTree.{map_of}
use Rattle.warg_registry.specs.declared.log_id.LogId.{LogId}
use Rattle.warg_transparency.specs.declared.map_tree.MapTree.{MapTree}

-- what stands at the end of a way: the prefix encoding of a leaf, or nothing
abbrev pub leaves_of : MapTree → List Side → Option (List ℕ)
leaves_of map = map_of map.tree

-- the way of a log
abbrev pub way_of : LogId → List Side
way_of id = way_down id.hash.bytes
