use Rattle.std.proofs.Common.{◌≡◌, ◌∙◌, ℕ, List, sym, ap}
use Rattle.sha2.specs.Sha256.{sha256}
use Rattle.warg_merkle.specs.SparseMap.Maps.{map_root}
use Rattle.warg_registry.specs.declared.checkpoint.Checkpoint.{Checkpoint}
use Rattle.warg_registry.specs.declared.leaf.LogLeaf.{LogLeaf}
use Rattle.warg_transparency.specs.RegistryTrees.{IsCheckpointOf, IsMapRoot}
use Rattle.warg_transparency.proofs.RegistryLemmas.{one_hash, one_map}
use Rattle.warg_transparency.proofs.laws.forks.one_checkpoint.Goals as goal

-- leaves have one root of their map
one_root : (leaves : List LogLeaf) (root other : List ℕ) → IsMapRoot leaves root → IsMapRoot leaves other → root ≡ other
one_root leaves root other is other_is =
    is.is_root ∙ ap (map_root sha256 256) (one_map leaves is.m other_is.m is.is_map other_is.is_map) ∙ sym other_is.is_root

one_of : (leaves : List LogLeaf) (checkpoint other : Checkpoint) → IsCheckpointOf leaves checkpoint → IsCheckpointOf leaves other → checkpoint ≡ other
one_of leaves checkpoint other is other_is =
    let size : checkpoint.log_length ≡ other.log_length = is.log_length ∙ sym other_is.log_length in
    let log = one_hash checkpoint.log_root other.log_root (is.log_root ∙ sym other_is.log_root) in
    let map = one_hash checkpoint.map_root other.map_root (one_root leaves checkpoint.map_root.bytes other.map_root.bytes is.map_root other_is.map_root) in
    λ i. record { log_root = log i; log_length = size i; map_root = map i }

pub returns-clause-one : goal.returns-clause-one
returns-clause-one c = one_of

pub returns-clause-fork : goal.returns-clause-fork
returns-clause-fork c = λ old new fork leaves is other_is. fork.differ (one_of leaves old new is other_is)
