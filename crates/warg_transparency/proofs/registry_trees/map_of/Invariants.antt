use Rattle.std.proofs.Common.{◌≤◌, length, drop}
use Rattle.std.specs.List.{All}
use Rattle.warg_transparency.specs.MapTree.{leaves_of}
use Rattle.warg_transparency.specs.RegistryTrees.{HasHashes, IsMapOf}
use Rattle.warg_transparency.proofs.registry_trees.map_of.Given as goal

-- the map is that of the leaves from there on
abbrev pub invariant-loop-at : goal.invariant-loop-at
invariant-loop-at l = record {
  within : l.at ≤ length l.leaves;
  hashes : All HasHashes (drop l.at l.leaves);
  is_map : IsMapOf (drop l.at l.leaves) (leaves_of l.map);
}

abbrev pub decreases-loop-at : goal.decreases-loop-at
decreases-loop-at l = l.at
