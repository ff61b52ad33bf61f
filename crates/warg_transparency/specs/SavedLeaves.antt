-- The form in which the leaves of a registry are saved.
use Rattle.std.specs.Prelude.{◌≡◌, ℕ, List, ◌++◌, map}
use Rattle.std.specs.List.{All, concat}
use Rattle.warg_registry.specs.declared.leaf.LogLeaf.{LogLeaf}
use Rattle.warg_transparency.specs.RegistryTrees.{HasHashes}

-- a leaf: the 32 bytes of its log's id, and those of its record's
abbrev pub leaf_bytes : LogLeaf → List ℕ
leaf_bytes leaf = leaf.log_id.hash.bytes ++ leaf.record_id.hash.bytes

-- all leaves, in the order in which they were pushed
abbrev pub saved_form : List LogLeaf → List ℕ
saved_form leaves = concat (map leaf_bytes leaves)

-- the bytes are the saved form of the leaves, whose ids are of 32 bytes
pub record AreSaved (leaves : List LogLeaf) (bytes : List ℕ) : Type 0 where
  pub is_form : bytes ≡ saved_form leaves
  pub hashes : All HasHashes leaves
