-- The trees of a registry as a caller in C holds them: in contracts they are the leaves that were pushed.
use Rattle.std.specs.Prelude.{◌≡◌, ℕ, List, [], ◌∷◌, ◌++◌, length, take, Option, Some, None, Ok}
use Rattle.std.specs.List.{slice_get}
use Rattle.sha2.specs.Sha256.{sha256}
use Rattle.warg_crypto.specs.HashText.{hash_of, hash_text}
use Rattle.warg_crypto.specs.declared.hash.AnyHash.{AnyHash}
use Rattle.warg_log_records.specs.declared.record_id.RecordId.{RecordId}
use Rattle.warg_registry.specs.declared.leaf.LogLeaf.{LogLeaf}
use Rattle.warg_registry.specs.declared.log_id.LogId.{LogId}
use Rattle.warg_merkle.specs.Trees.{inclusion_path, tree_hash}
use Rattle.warg_merkle.specs.Extensions.{consistency_proof}
use Rattle.warg_transparency.specs.RegistryTrees.{HeadIs, IsMapRoot, ProvesHead, entries_of, leaf_of}
use Rattle.warg_transparency.specs.Texts.{log_proof_of, log_proof_text, map_proof_of, map_proof_text}
use Rattle.warg_c.specs.ProofAnswers.{AreLeafTexts, ShowsAbsence, ShowsConsistency, ShowsInclusion, ShowsPresence}
use Rattle.warg_c.specs.declared.exports.registry_proofs.HeadLengths.{HeadLengths}
use Rattle.warg_c.specs.declared.exports.registries.RootLengths.{RootLengths}

-- how many leaves were pushed
abbrev pub IsCount : List LogLeaf → ℕ → Type 0
IsCount leaves n = n ≡ length leaves

-- the leaf of these texts comes last, and nothing else changes
pub record IsPushed (log_id record_id : List ℕ) (old new : List LogLeaf) : Type 0 where
  pub leaf : LogLeaf
  pub texts : AreLeafTexts log_id record_id leaf
  pub last : new ≡ old ++ leaf ∷ []

-- the texts of both roots, one behind the other, and their lengths
pub record TellsRoots (leaves : List LogLeaf) (n : RootLengths) (text : List ℕ) : Type 0 where
  pub log : AnyHash
  pub map : AnyHash
  pub log_root : log.bytes ≡ tree_hash sha256 (entries_of leaves)
  pub map_root : IsMapRoot leaves map.bytes
  pub text_is : text ≡ hash_text log ++ hash_text map
  pub log_root_len : n.log_root_len ≡ length (hash_text log)
  pub map_root_len : n.map_root_len ≡ length (hash_text map)

-- the text of the log's own proof of the leaf at a place, which shows that leaf
pub record TellsInclusion (leaves : List LogLeaf) (place : ℕ) (text : List ℕ) : Type 0 where
  pub leaf : LogLeaf
  pub at_place : slice_get leaves place ≡ Some leaf
  pub text_is : text ≡ log_proof_text (inclusion_path sha256 place (entries_of leaves))
  pub reads_back : log_proof_of text ≡ Ok (inclusion_path sha256 place (entries_of leaves))
  pub shows : ShowsInclusion place (length leaves) leaf (inclusion_path sha256 place (entries_of leaves)) (tree_hash sha256 (entries_of leaves))

-- the text of the log's own proof of its first leaves, which shows that it goes on from them
pub record TellsConsistency (leaves : List LogLeaf) (first : ℕ) (text : List ℕ) : Type 0 where
  pub text_is : text ≡ log_proof_text (consistency_proof sha256 first (entries_of leaves))
  pub reads_back : log_proof_of text ≡ Ok (consistency_proof sha256 first (entries_of leaves))
  pub shows : ShowsConsistency first (length leaves) (consistency_proof sha256 first (entries_of leaves)) (tree_hash sha256 (entries_of (take first leaves))) (tree_hash sha256 (entries_of leaves))

-- the text of the id of a head: of none it is empty
abbrev pub head_text : Option RecordId → List ℕ
head_text (Some record_id) = hash_text record_id.hash
head_text None = []

-- the path shows the head of the log, or that it has none, under the root
abbrev pub ShowsHead : LogId → Option RecordId → List (List ℕ) → List ℕ → Type 0
ShowsHead log_id (Some record_id) path root = ShowsPresence (leaf_of log_id record_id) path root
ShowsHead log_id None path root = ShowsAbsence log_id.hash path root

-- the text of the head's id and that of the proof behind it, which shows this head under each root of the map of the leaves, and their lengths
pub record TellsHead (leaves : List LogLeaf) (log_id : LogId) (n : HeadLengths) (text : List ℕ) : Type 0 where
  pub head : Option RecordId
  pub path : List (List ℕ)
  pub is_head : HeadIs leaves log_id head
  pub is_proof : ProvesHead leaves log_id path
  pub text_is : text ≡ head_text head ++ map_proof_text path
  pub reads_back : map_proof_of (map_proof_text path) ≡ Ok path
  pub shows : (root : List ℕ) → IsMapRoot leaves root → ShowsHead log_id head path root
  pub record_id_len : n.record_id_len ≡ length (head_text head)
  pub proof_len : n.proof_len ≡ length (map_proof_text path)

-- the same of the log whose id has this text
pub record TellsHeadOf (leaves : List LogLeaf) (log_id : List ℕ) (n : HeadLengths) (text : List ℕ) : Type 0 where
  pub id : LogId
  pub id_text : hash_of log_id ≡ Ok id.hash
  pub tells : TellsHead leaves id n text
