-- The log and the map of the leaves that were pushed onto a registry.
use Rattle.std.specs.Prelude.{◌≡◌, ◌≢◌, ℕ, List, ◌∷◌, ◌++◌, length, map, take, Option, Some, None}
use Rattle.std.specs.Coded.{Coded, coded_list}
use Rattle.std.specs.List.{All, slice_get}
use Rattle.sha2.specs.Sha256.{sha256}
use Rattle.warg_log_records.specs.declared.record_id.RecordId.{RecordId}
use Rattle.warg_registry.specs.PrefixEncodings.{log_leaf_encoding_of, map_leaf_encoding_of, IsHash}
use Rattle.warg_registry.specs.contracts.leaf.LogLeaf.{the_row}
use Rattle.warg_registry.specs.declared.checkpoint.Checkpoint.{Checkpoint}
use Rattle.warg_registry.specs.declared.leaf.LogLeaf.{LogLeaf}
use Rattle.warg_registry.specs.declared.log_id.LogId.{LogId}
use Rattle.warg_merkle.specs.Trees.{Side, inclusion_path, tree_hash, Includes}
use Rattle.warg_merkle.specs.Extensions.{consistency_proof, IsConsistent}
use Rattle.warg_merkle.specs.MerkleLog.Logs.{leaf_hashes}
use Rattle.warg_merkle.specs.SparseMap.Maps.{map_path, map_root, Leads}
use Rattle.warg_transparency.specs.Heads.{head_leaf}
use Rattle.warg_transparency.specs.MapTree.{way_of}

-- by which lists of leaves are told apart
abbrev pub leaves_code : Coded (List LogLeaf)
leaves_code = coded_list the_row.coded

-- the entries of the log: the prefix encodings of the leaves
abbrev pub entries_of : List LogLeaf → List (List ℕ)
entries_of leaves = map log_leaf_encoding_of leaves

-- the leaf of a record of a log
abbrev pub leaf_of : LogId → RecordId → LogLeaf
leaf_of log_id record_id = record { log_id = log_id; record_id = record_id }

-- none of the leaves is of the log
abbrev pub HasNone : List LogLeaf → LogId → Type 0
HasNone leaves log_id = All (λ leaf. leaf.log_id ≢ log_id) leaves

-- the record is the last one that the leaves have of the log
pub record IsHead (leaves : List LogLeaf) (log_id : LogId) (record_id : RecordId) : Type 0 where
  pub before : List LogLeaf
  pub after : List LogLeaf
  pub parts : leaves ≡ before ++ leaf_of log_id record_id ∷ after
  pub last : HasNone after log_id

-- this is the last record of the log, or it has none
abbrev pub HeadIs : List LogLeaf → LogId → Option RecordId → Type 0
HeadIs leaves log_id (Some record_id) = IsHead leaves log_id record_id
HeadIs leaves log_id None = HasNone leaves log_id

-- the map has the last record of each log at the end of the log's way, and nothing else
pub record IsMapOf (leaves : List LogLeaf) (m : List Side → Option (List ℕ)) : Type 0 where
  pub heads : (log_id : LogId) (record_id : RecordId) → IsHead leaves log_id record_id → m (way_of log_id) ≡ Some (map_leaf_encoding_of (head_leaf record_id))
  pub others : (way : List Side) → All (λ leaf. way_of leaf.log_id ≢ way) leaves → m way ≡ None

-- the root is that of the map of the leaves
pub record IsMapRoot (leaves : List LogLeaf) (root : List ℕ) : Type 0 where
  pub m : List Side → Option (List ℕ)
  pub is_map : IsMapOf leaves m
  pub is_root : root ≡ map_root sha256 256 m

-- the checkpoint says the length of the log of the leaves, and the roots of their log and their map
pub record IsCheckpointOf (leaves : List LogLeaf) (checkpoint : Checkpoint) : Type 0 where
  pub log_length : checkpoint.log_length ≡ length leaves
  pub log_root : checkpoint.log_root.bytes ≡ tree_hash sha256 (entries_of leaves)
  pub map_root : IsMapRoot leaves checkpoint.map_root.bytes

-- the path is the log's own for the leaf at the index, and leads from that leaf to the root
pub record ProvesLeaf (leaves : List LogLeaf) (index : ℕ) (path : List (List ℕ)) : Type 0 where
  pub leaf : LogLeaf
  pub at_index : slice_get leaves index ≡ Some leaf
  pub own : path ≡ inclusion_path sha256 index (entries_of leaves)
  pub includes : Includes sha256 (log_leaf_encoding_of leaf) index (length leaves) path (tree_hash sha256 (entries_of leaves))

-- the path is the log's own for its first leaves, and leads to their root and to that of all
pub record ProvesBeginning (leaves : List LogLeaf) (first : ℕ) (path : List (List ℕ)) : Type 0 where
  pub own : path ≡ consistency_proof sha256 first (entries_of leaves)
  pub goes_on : IsConsistent sha256 first (length leaves) path (tree_hash sha256 (entries_of (take first leaves))) (tree_hash sha256 (entries_of leaves))

-- the path is the map's own for the log, and leads to the root from the log's last record, or from nothing where it has none
pub record ProvesHead (leaves : List LogLeaf) (log_id : LogId) (path : List (List ℕ)) : Type 0 where
  pub own : (m : List Side → Option (List ℕ)) → IsMapOf leaves m → path ≡ map_path sha256 m (way_of log_id)
  pub presence : (record_id : RecordId) (root : List ℕ) → IsHead leaves log_id record_id → IsMapRoot leaves root → Leads sha256 (Some (map_leaf_encoding_of (head_leaf record_id))) log_id.hash.bytes path root
  pub absence : (root : List ℕ) → HasNone leaves log_id → IsMapRoot leaves root → Leads sha256 None log_id.hash.bytes path root

-- the ids of the leaf are of 32 bytes, as those of every leaf of the code
pub record HasHashes (leaf : LogLeaf) : Type 0 where
  pub log_id : IsHash leaf.log_id.hash
  pub record_id : IsHash leaf.record_id.hash

-- the log keeps the hashes of the leaves, and the map is that of the leaves
pub record AreTreesOf (leaves : List LogLeaf) (log : List (List ℕ)) (m : List Side → Option (List ℕ)) : Type 0 where
  pub hashes : All HasHashes leaves
  pub is_log : log ≡ leaf_hashes sha256 (entries_of leaves)
  pub is_map : IsMapOf leaves m
