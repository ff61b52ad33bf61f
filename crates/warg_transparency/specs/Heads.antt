-- The heads of logs in a registry's map.
use Rattle.std.specs.Prelude.{◌≡◌, ℕ, List, length, Some}
use Rattle.std.specs.List.{All}
use Rattle.sha2.specs.Sha256.{sha256}
use Rattle.warg_crypto.specs.declared.hash.AnyHash.{AnyHash}
use Rattle.warg_log_records.specs.declared.record_id.RecordId.{RecordId}
use Rattle.warg_registry.specs.PrefixEncodings.{IsHash, map_leaf_encoding_of}
use Rattle.warg_registry.specs.declared.checkpoint.Checkpoint.{Checkpoint}
use Rattle.warg_registry.specs.declared.leaf.MapLeaf.{MapLeaf}
use Rattle.warg_registry.specs.declared.log_id.LogId.{LogId}
use Rattle.warg_merkle.specs.SparseMap.Maps.{Leads, path_inputs}

-- the leaf of a log whose last record this is
abbrev pub head_leaf : RecordId → MapLeaf
head_leaf record_id = record { record_id = record_id }

-- the proof, of siblings of 32 bytes, leads from the leaf of the log to the root of a map
pub record ShowsLeaf (root : AnyHash) (log_id : LogId) (leaf : MapLeaf) (proof : List (List ℕ)) : Type 0 where
  pub leads : Leads sha256 (Some (map_leaf_encoding_of leaf)) log_id.hash.bytes proof root.bytes
  pub record_id : IsHash leaf.record_id.hash
  pub siblings : All (λ sibling. length sibling ≡ 32) proof

-- the proof shows that the record is the head of the log under the checkpoint
abbrev pub ShowsHead : Checkpoint → LogId → RecordId → List (List ℕ) → Type 0
ShowsHead checkpoint log_id record_id proof = ShowsLeaf checkpoint.map_root log_id (head_leaf record_id) proof

-- what is hashed where the proof of a leaf is tried
abbrev pub path_inputs_for : LogId → MapLeaf → List (List ℕ) → List (List ℕ)
path_inputs_for log_id leaf proof = path_inputs sha256 (Some (map_leaf_encoding_of leaf)) log_id.hash.bytes proof
