-- What a registry shows of one checkpoint, and may show twice.
use Rattle.std.specs.Prelude.{◌≡◌, ℕ, List, length, None}
use Rattle.std.specs.List.{All}
use Rattle.sha2.specs.Sha256.{sha256}
use Rattle.warg_crypto.specs.declared.hash.AnyHash.{AnyHash}
use Rattle.warg_registry.specs.PrefixEncodings.{log_leaf_encoding_of, IsHash}
use Rattle.warg_registry.specs.declared.checkpoint.Checkpoint.{Checkpoint}
use Rattle.warg_registry.specs.declared.leaf.LogLeaf.{LogLeaf}
use Rattle.warg_registry.specs.declared.log_id.LogId.{LogId}
use Rattle.warg_merkle.specs.Trees.{path_inputs, Includes}
use Rattle.warg_merkle.specs.Extensions.{climb_inputs_from, extension_sides, with_start}
use Rattle.warg_merkle.specs.SparseMap.Maps as maps
use Rattle.warg_transparency.specs.RegistryTrees.{HasHashes}
use Rattle.warg_transparency.specs.Views.{GoesOn}

-- the proof, of hashes of 32 bytes, shows that the leaf stands at the index of the log under the checkpoint
pub record ShowsLeafAt (checkpoint : Checkpoint) (index : ℕ) (leaf : LogLeaf) (proof : List (List ℕ)) : Type 0 where
  pub includes : Includes sha256 (log_leaf_encoding_of leaf) index checkpoint.log_length proof checkpoint.log_root.bytes
  pub ids : HasHashes leaf
  pub hashes : All (λ hash. length hash ≡ 32) proof

-- what is hashed where that proof is tried
abbrev pub leaf_inputs : Checkpoint → ℕ → LogLeaf → List (List ℕ) → List (List ℕ)
leaf_inputs checkpoint index leaf proof = path_inputs sha256 (log_leaf_encoding_of leaf) index checkpoint.log_length proof

-- the proof, of hashes of 32 bytes, shows that the log of the new checkpoint begins with that of the old one
pub record ShowsBeginning (new old : Checkpoint) (proof : List (List ℕ)) : Type 0 where
  pub goes_on : GoesOn old new proof
  pub root : IsHash old.log_root
  pub hashes : All (λ hash. length hash ≡ 32) proof

-- what is hashed where that proof is tried
abbrev pub beginning_inputs : Checkpoint → Checkpoint → List (List ℕ) → List (List ℕ)
beginning_inputs new old proof = climb_inputs_from sha256 (extension_sides old.log_length new.log_length) (with_start sha256 old.log_length old.log_root.bytes proof)

-- the proof, of siblings of 32 bytes, shows that the map of this root has nothing for the log
pub record ShowsNothing (root : AnyHash) (log_id : LogId) (proof : List (List ℕ)) : Type 0 where
  pub leads : maps.Leads sha256 None log_id.hash.bytes proof root.bytes
  pub siblings : All (λ sibling. length sibling ≡ 32) proof

-- what is hashed where that proof is tried
abbrev pub nothing_inputs : LogId → List (List ℕ) → List (List ℕ)
nothing_inputs log_id proof = maps.path_inputs sha256 None log_id.hash.bytes proof
