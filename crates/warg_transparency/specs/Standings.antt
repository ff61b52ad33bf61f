-- What a checkpoint says of a log and a map.
use Rattle.std.specs.Prelude.{◌≡◌, length}
use Rattle.sha2.specs.Sha256.{sha256}
use Rattle.warg_merkle.specs.Trees.{tree_hash}
use Rattle.warg_merkle.specs.MerkleLog.Logs.{ForLeaves}
use Rattle.warg_merkle.specs.SparseMap.Maps.{map_root}
use Rattle.warg_registry.specs.declared.checkpoint.Checkpoint.{Checkpoint}
use Rattle.warg_transparency.specs.declared.log_tree.LogTree.{LogTree}
use Rattle.warg_transparency.specs.declared.map_tree.MapTree.{MapTree}
use Rattle.warg_transparency.specs.MapTree.{leaves_of}

-- the roots and the length are theirs
pub record IsOfTrees (log : LogTree) (map : MapTree) (checkpoint : Checkpoint) : Type 0 where
  pub log_root : ForLeaves sha256 log (λ entries. checkpoint.log_root.bytes ≡ tree_hash sha256 entries)
  pub log_length : checkpoint.log_length ≡ length log
  pub map_root : checkpoint.map_root.bytes ≡ map_root sha256 256 (leaves_of map)
