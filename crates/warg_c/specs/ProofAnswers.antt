-- What a registry proves of its log and its map, by the texts of a call.
use Rattle.std.specs.Prelude.{◌≡◌, ◌≢◌, ◌⊎◌, ℕ, List, Some, None, Result, Ok, IsOk}
use Rattle.std.specs.Str.{IsUtf8}
use Rattle.sha2.specs.Sha256.{sha256}
use Rattle.warg_crypto.specs.HashText.{hash_of}
use Rattle.warg_crypto.specs.declared.hash.AnyHash.{AnyHash}
use Rattle.warg_registry.specs.PrefixEncodings.{log_leaf_encoding_of, map_leaf_encoding_of}
use Rattle.warg_registry.specs.declared.leaf.LogLeaf.{LogLeaf}
use Rattle.warg_merkle.specs.Trees.{Includes}
use Rattle.warg_merkle.specs.Extensions.{IsConsistent}
use Rattle.warg_merkle.specs.SparseMap.Maps.{Leads}
use Rattle.warg_transparency.specs.Heads.{head_leaf}
use Rattle.warg_transparency.specs.Texts.{log_proof_of, map_proof_of}
use Rattle.warg_c.specs.declared.call_error.CallError.{CallError}
use Rattle.warg_c.specs.declared.call_error.CallError.TheVariants.{OutOfMemory, Refused, BadArgument}

-- a text that is not UTF-8, or reads as nothing
abbrev pub IsNoText : {X E : Type 0} → (List ℕ → Result X E) → List ℕ → Type 0
IsNoText {X} read text = IsUtf8 text → (x : X) → read text ≢ Ok x

-- the texts are those of the ids of a leaf
pub record AreLeafTexts (log_text record_text : List ℕ) (leaf : LogLeaf) : Type 0 where
  pub log_id : hash_of log_text ≡ Ok leaf.log_id.hash
  pub record_id : hash_of record_text ≡ Ok leaf.record_id.hash

-- why nothing is proved: no memory, where some is taken, the proof differs, or a text is not of its form
abbrev pub ProofErrors : Type 0 → Type 0 → Type 0 → CallError → Type 0
ProofErrors Takes Differs IsBad OutOfMemory = Takes
ProofErrors Takes Differs IsBad Refused = Differs
ProofErrors Takes Differs IsBad BadArgument = IsBad
ProofErrors Takes Differs IsBad f = ⊥

-- the texts are of hashes, so that a proof's text is read
abbrev pub AreHashes : (log_id record_id root : List ℕ) → Type 0
AreHashes log_id record_id root = IsOk (hash_of log_id) × IsOk (hash_of record_id) × IsOk (hash_of root)

-- the same of two
abbrev pub AreTwoHashes : (first second : List ℕ) → Type 0
AreTwoHashes first second = IsOk (hash_of first) × IsOk (hash_of second)

-- the texts say of a leaf that it stands at the place of a log of that length and root
pub record IsInclusion (log_id record_id root proof : List ℕ) (Says : LogLeaf → List (List ℕ) → List ℕ → Type 0) : Type 0 where
  pub leaf : LogLeaf
  pub hash : AnyHash
  pub path : List (List ℕ)
  pub leaf_texts : AreLeafTexts log_id record_id leaf
  pub root_text : hash_of root ≡ Ok hash
  pub proof_text : log_proof_of proof ≡ Ok path
  pub says : Says leaf path hash.bytes

abbrev pub ShowsInclusion : ℕ → ℕ → LogLeaf → List (List ℕ) → List ℕ → Type 0
ShowsInclusion place length leaf path root = Includes sha256 (log_leaf_encoding_of leaf) place length path root

abbrev pub ShowsNoInclusion : ℕ → ℕ → LogLeaf → List (List ℕ) → List ℕ → Type 0
ShowsNoInclusion place length leaf path root = ¬ ShowsInclusion place length leaf path root

abbrev pub IsNoInclusion : (log_id record_id root proof : List ℕ) → Type 0
IsNoInclusion log_id record_id root proof = (IsNoText hash_of log_id ⊎ IsNoText hash_of record_id) ⊎ (IsNoText hash_of root ⊎ IsNoText log_proof_of proof)

-- the texts say of two roots that the log of the second begins with that of the first
pub record IsConsistency (old_root new_root proof : List ℕ) (Says : List (List ℕ) → List ℕ → List ℕ → Type 0) : Type 0 where
  pub old : AnyHash
  pub new : AnyHash
  pub path : List (List ℕ)
  pub old_text : hash_of old_root ≡ Ok old
  pub new_text : hash_of new_root ≡ Ok new
  pub proof_text : log_proof_of proof ≡ Ok path
  pub says : Says path old.bytes new.bytes

abbrev pub ShowsConsistency : ℕ → ℕ → List (List ℕ) → List ℕ → List ℕ → Type 0
ShowsConsistency old_length new_length path old new = IsConsistent sha256 old_length new_length path old new

abbrev pub ShowsNoConsistency : ℕ → ℕ → List (List ℕ) → List ℕ → List ℕ → Type 0
ShowsNoConsistency old_length new_length path old new = ¬ ShowsConsistency old_length new_length path old new

abbrev pub IsNoConsistency : (old_root new_root proof : List ℕ) → Type 0
IsNoConsistency old_root new_root proof = IsNoText hash_of old_root ⊎ (IsNoText hash_of new_root ⊎ IsNoText log_proof_of proof)

-- the texts say of a leaf that the map of that root has its record for its log
pub record IsPresence (log_id record_id root proof : List ℕ) (Says : LogLeaf → List (List ℕ) → List ℕ → Type 0) : Type 0 where
  pub leaf : LogLeaf
  pub hash : AnyHash
  pub path : List (List ℕ)
  pub leaf_texts : AreLeafTexts log_id record_id leaf
  pub root_text : hash_of root ≡ Ok hash
  pub proof_text : map_proof_of proof ≡ Ok path
  pub says : Says leaf path hash.bytes

abbrev pub ShowsPresence : LogLeaf → List (List ℕ) → List ℕ → Type 0
ShowsPresence leaf path root = Leads sha256 (Some (map_leaf_encoding_of (head_leaf leaf.record_id))) leaf.log_id.hash.bytes path root

abbrev pub ShowsNoPresence : LogLeaf → List (List ℕ) → List ℕ → Type 0
ShowsNoPresence leaf path root = ¬ ShowsPresence leaf path root

abbrev pub IsNoPresence : (log_id record_id root proof : List ℕ) → Type 0
IsNoPresence log_id record_id root proof = (IsNoText hash_of log_id ⊎ IsNoText hash_of record_id) ⊎ (IsNoText hash_of root ⊎ IsNoText map_proof_of proof)

-- the texts say of a log that the map of that root has nothing for it
pub record IsAbsence (log_id root proof : List ℕ) (Says : AnyHash → List (List ℕ) → List ℕ → Type 0) : Type 0 where
  pub log : AnyHash
  pub hash : AnyHash
  pub path : List (List ℕ)
  pub log_text : hash_of log_id ≡ Ok log
  pub root_text : hash_of root ≡ Ok hash
  pub proof_text : map_proof_of proof ≡ Ok path
  pub says : Says log path hash.bytes

abbrev pub ShowsAbsence : AnyHash → List (List ℕ) → List ℕ → Type 0
ShowsAbsence log path root = Leads sha256 None log.bytes path root

abbrev pub ShowsNoAbsence : AnyHash → List (List ℕ) → List ℕ → Type 0
ShowsNoAbsence log path root = ¬ ShowsAbsence log path root

abbrev pub IsNoAbsence : (log_id root proof : List ℕ) → Type 0
IsNoAbsence log_id root proof = IsNoText hash_of log_id ⊎ (IsNoText hash_of root ⊎ IsNoText map_proof_of proof)
