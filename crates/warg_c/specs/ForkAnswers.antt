-- How what a registry said twice compares, by the texts of a call.
use Rattle.std.specs.Prelude.{◌≡◌, ◌≢◌, ◌⊎◌, ◌<◌, ℕ, List, Ok}
use Rattle.warg_crypto.specs.HashText.{hash_of}
use Rattle.warg_registry.specs.declared.checkpoint.Checkpoint.{Checkpoint}
use Rattle.warg_registry.specs.declared.leaf.LogLeaf.{LogLeaf}
use Rattle.warg_transparency.specs.Contradictions.{ShowsLeafAt}
use Rattle.warg_transparency.specs.Forks.{IsFork, IsNotShownToGoOn, IsShownToGoOn}
use Rattle.warg_transparency.specs.Texts.{log_proof_of}
use Rattle.warg_transparency.specs.declared.forks.CheckpointComparison.{CheckpointComparison}
use Rattle.warg_transparency.specs.declared.forks.CheckpointComparison.TheVariants as checkpoints
use Rattle.warg_transparency.specs.declared.forks.LeafComparison.{LeafComparison}
use Rattle.warg_transparency.specs.declared.forks.LeafComparison.TheVariants as leaves
use Rattle.warg_c.specs.declared.exports.forks.CheckpointText as declared
use Rattle.warg_c.specs.declared.exports.forks.LeafText as declared_leaf
use Rattle.warg_c.specs.ProofAnswers.{AreHashes, AreLeafTexts, AreTwoHashes, IsNoText}

-- how a call says a checkpoint: by the length of its log, the text of the log's root, and that of the map's
abbrev pub CheckpointText : Type 0
CheckpointText = ℕ × (List ℕ × List ℕ)

abbrev pub checkpoint_said : declared.CheckpointText → CheckpointText
checkpoint_said it = (it.length, (it.log_root.now, it.map_root.now))

-- this is said of the checkpoint
pub record IsCheckpointText (said : CheckpointText) (c : Checkpoint) : Type 0 where
  pub length_is : c.log_length ≡ said.0
  pub log_text : hash_of said.1.0 ≡ Ok c.log_root
  pub map_text : hash_of said.1.1 ≡ Ok c.map_root

-- one of the texts of the roots is none of a hash
abbrev pub IsNoCheckpointText : CheckpointText → Type 0
IsNoCheckpointText said = IsNoText hash_of said.1.0 ⊎ IsNoText hash_of said.1.1

-- the number of a case
abbrev pub checkpoint_number : CheckpointComparison → ℕ
checkpoint_number checkpoints.Same = 0
checkpoint_number checkpoints.GoesOn = 1
checkpoint_number checkpoints.GoesBack = 2
checkpoint_number checkpoints.Fork = 3
checkpoint_number checkpoints.NotShown = 4

-- the case is that of the checkpoints and the proof
abbrev pub IsCheckpointCase : Checkpoint → Checkpoint → List (List ℕ) → CheckpointComparison → Type 0
IsCheckpointCase old new path checkpoints.Same = old ≡ new
IsCheckpointCase old new path checkpoints.GoesOn = IsShownToGoOn old new path
IsCheckpointCase old new path checkpoints.GoesBack = new.log_length < old.log_length
IsCheckpointCase old new path checkpoints.Fork = IsFork old new
IsCheckpointCase old new path checkpoints.NotShown = IsNotShownToGoOn old new path

-- the number is that of the case of the checkpoints and the proof of these texts
pub record AreCompared (old new : CheckpointText) (proof : List ℕ) (number : ℕ) : Type 0 where
  pub old_is : Checkpoint
  pub new_is : Checkpoint
  pub path : List (List ℕ)
  pub case : CheckpointComparison
  pub old_text : IsCheckpointText old old_is
  pub new_text : IsCheckpointText new new_is
  pub proof_text : log_proof_of proof ≡ Ok path
  pub is_case : IsCheckpointCase old_is new_is path case
  pub number_is : number ≡ checkpoint_number case

-- the texts of the roots are of hashes, so that the proof's text is read
abbrev pub AreFourHashes : CheckpointText → CheckpointText → Type 0
AreFourHashes old new = AreTwoHashes old.1.0 old.1.1 × AreTwoHashes new.1.0 new.1.1

-- one of the texts is not of its form
abbrev pub AreNotCompared : CheckpointText → CheckpointText → List ℕ → Type 0
AreNotCompared old new proof = IsNoCheckpointText old ⊎ (IsNoCheckpointText new ⊎ IsNoText log_proof_of proof)

-- how a call says a leaf that is shown: by the length of the log and the text of its root, those of the leaf's ids, and that of the proof
abbrev pub ShownText : Type 0
ShownText = (ℕ × List ℕ) × ((List ℕ × List ℕ) × List ℕ)

abbrev pub shown_said : declared_leaf.LeafText → ShownText
shown_said it = ((it.length, it.root.now), ((it.log_id.now, it.record_id.now), it.proof.now))

-- this is said of the root of the checkpoint's log, of the leaf, and of the path
pub record IsShownText (said : ShownText) (checkpoint : Checkpoint) (leaf : LogLeaf) (path : List (List ℕ)) : Type 0 where
  pub length_is : checkpoint.log_length ≡ said.0.0
  pub root_text : hash_of said.0.1 ≡ Ok checkpoint.log_root
  pub leaf_texts : AreLeafTexts said.1.0.0 said.1.0.1 leaf
  pub proof_text : log_proof_of said.1.1 ≡ Ok path

-- the case is that of two leaves: whether both are shown, and whether they are one
abbrev pub IsLeafCase : Type 0 → LogLeaf → LogLeaf → LeafComparison → Type 0
IsLeafCase AreShown old new leaves.Same = AreShown × (old ≡ new)
IsLeafCase AreShown old new leaves.Fork = AreShown × (old ≢ new)
IsLeafCase AreShown old new leaves.NotShown = AreShown → ⊥

-- the number of a case
abbrev pub leaf_number : LeafComparison → ℕ
leaf_number leaves.Same = 0
leaf_number leaves.Fork = 1
leaf_number leaves.NotShown = 2

-- the number is that of the case of the leaves and the proofs of these texts
pub record AreLeavesCompared (place : ℕ) (old new : ShownText) (number : ℕ) : Type 0 where
  pub old_checkpoint : Checkpoint
  pub new_checkpoint : Checkpoint
  pub old_leaf : LogLeaf
  pub new_leaf : LogLeaf
  pub old_path : List (List ℕ)
  pub new_path : List (List ℕ)
  pub case : LeafComparison
  pub old_text : IsShownText old old_checkpoint old_leaf old_path
  pub new_text : IsShownText new new_checkpoint new_leaf new_path
  pub is_case : IsLeafCase (ShowsLeafAt old_checkpoint place old_leaf old_path × ShowsLeafAt new_checkpoint place new_leaf new_path) old_leaf new_leaf case
  pub number_is : number ≡ leaf_number case

-- one of the texts is not of its form
abbrev pub IsNoShownText : ShownText → Type 0
IsNoShownText said = IsNoText hash_of said.0.1 ⊎ ((IsNoText hash_of said.1.0.0 ⊎ IsNoText hash_of said.1.0.1) ⊎ IsNoText log_proof_of said.1.1)

-- those of the root and the ids are of hashes, so that the proof's text is read
abbrev pub HasHashTexts : ShownText → Type 0
HasHashTexts said = AreHashes said.1.0.0 said.1.0.1 said.0.1
