-- What two views of a registry show of one another, by the words and the files that a comparison names.
use Rattle.std.specs.Prelude.{◌≡◌, ◌≢◌, ◌<◌, ◌≤◌, ◌⊎◌, ℕ, List, [], ◌++◌, codes, Option}
use Rattle.std.specs.Fmt.{decimal}
use Rattle.warg_registry.specs.declared.checkpoint.Checkpoint.{Checkpoint}
use Rattle.warg_transparency.specs.Contradictions.{ShowsLeafAt}
use Rattle.warg_transparency.specs.Forks.{IsFork, IsNotShownToGoOn, IsShownToGoOn}
use Rattle.warg_transparency.specs.declared.forks.CheckpointComparison.{CheckpointComparison}
use Rattle.warg_transparency.specs.declared.forks.CheckpointComparison.TheVariants as checkpoints
use Rattle.warg_transparency.specs.declared.forks.LeafComparison.{LeafComparison}
use Rattle.warg_transparency.specs.declared.forks.LeafComparison.TheVariants as leaves
use Rattle.warg_audit.specs.Files.Files.{Files}
use Rattle.warg_audit.specs.Files.OutputData.{OutputData}
use Rattle.warg_audit.specs.Files.Texts.{no, yes}
use Rattle.tool_checkpoints.specs.CheckpointAnswers.{IsSigned, Signed}
use Rattle.tool_checkpoints.specs.Proofs.{IsLeafOf, IsLogProof}
use Rattle.tool_checkpoints.specs.ShownTwice.{IsBeginningsAnswer, IsHeadsAnswer}
use Rattle.tool_checkpoints.specs.Words.{IsByFile, IsByWords, IsIn, IsNumber}
use Rattle.tool_checkpoints.specs.declared.compare.ReadLeaf.{ReadLeaf}
use Rattle.tool_words.specs.declared.views.ShownIds.{ShownIds}
use Rattle.tool_words.specs.declared.views.Views.{Views}
use Rattle.tool_words.specs.declared.views.Views.TheVariants as views

-- ---- checkpoints

-- how a checkpoint compares with an older one, by a proof that its log goes on from the older one's
abbrev pub IsCheckpointCase : Checkpoint → Checkpoint → List (List ℕ) → CheckpointComparison → Type 0
IsCheckpointCase old new proof checkpoints.Same = old ≡ new
IsCheckpointCase old new proof checkpoints.GoesOn = IsShownToGoOn old new proof
IsCheckpointCase old new proof checkpoints.GoesBack = new.log_length < old.log_length
IsCheckpointCase old new proof checkpoints.Fork = IsFork old new
IsCheckpointCase old new proof checkpoints.NotShown = IsNotShownToGoOn old new proof

-- the line of that, with the lengths of the logs
abbrev pub checkpoint_text : ℕ → ℕ → CheckpointComparison → OutputData
checkpoint_text old new checkpoints.Same = yes (codes "same " ++ (decimal old ++ codes "\n"))
checkpoint_text old new checkpoints.GoesOn = yes (codes "goes on " ++ (decimal old ++ (codes " " ++ (decimal new ++ codes "\n"))))
checkpoint_text old new checkpoints.GoesBack = no (codes "rolled back " ++ (decimal old ++ (codes " " ++ (decimal new ++ codes "\n"))))
checkpoint_text old new checkpoints.Fork = no (codes "fork " ++ (decimal old ++ codes "\n"))
checkpoint_text old new checkpoints.NotShown = no (codes "not shown " ++ (decimal old ++ (codes " " ++ (decimal new ++ codes "\n"))))

-- the line says how the checkpoints compare by the proof
pub record AreCompared (old new : Checkpoint) (proof : List (List ℕ)) (printed : OutputData) : Type 0 where
  pub case : CheckpointComparison
  pub is_case : IsCheckpointCase old new proof case
  pub text : printed ≡ checkpoint_text old.log_length new.log_length case

-- ---- leaves

-- the leaf is shown at the place
abbrev pub IsShown : ℕ → ReadLeaf → Type 0
IsShown place it = ShowsLeafAt it.checkpoint place it.leaf it.proof

-- how the leaves at a place compare: whether both are shown, and whether they are one
abbrev pub IsLeafCase : ℕ → ReadLeaf → ReadLeaf → LeafComparison → Type 0
IsLeafCase place old new leaves.Same = IsShown place old × IsShown place new × (old.leaf ≡ new.leaf)
IsLeafCase place old new leaves.Fork = IsShown place old × IsShown place new × (old.leaf ≢ new.leaf)
IsLeafCase place old new leaves.NotShown = (IsShown place old × IsShown place new) → ⊥

-- the line of that
abbrev pub leaf_text : LeafComparison → OutputData
leaf_text leaves.Same = yes (codes "same\n")
leaf_text leaves.Fork = no (codes "fork\n")
leaf_text leaves.NotShown = no (codes "not shown\n")

-- the line says how the leaves compare
pub record AreLeavesCompared (place : ℕ) (old new : ReadLeaf) (printed : OutputData) : Type 0 where
  pub case : LeafComparison
  pub is_case : IsLeafCase place old new case
  pub text : printed ≡ leaf_text case

-- ---- answers, by words and files, in the order in which they are read

module _ (files : Option Files) where
  -- the answer by the proof in a file, which is read where the newer log is longer alone
  abbrev pub IsComparison : List ℕ → Checkpoint → Checkpoint → OutputData → Type 0
  IsComparison proof_path old new printed =
      ((old.log_length < new.log_length) × IsByFile files proof_path IsLogProof (AreCompared old new) printed)
      ⊎ ((new.log_length ≤ old.log_length) × AreCompared old new [] printed)

  abbrev pub IsCheckpointsAnswer : List ℕ → List ℕ → List ℕ → OutputData → Type 0
  IsCheckpointsAnswer old_path new_path proof_path printed =
      IsByFile files old_path IsSigned (λ old.
      IsByFile files new_path IsSigned (λ new.
      IsComparison proof_path old.contents.checkpoint new.contents.checkpoint)) printed

  -- the words and the files say the leaf, its checkpoint and its proof
  pub record IsRead (ids : ShownIds) (it : ReadLeaf) : Type 0 where
    pub leaf : IsLeafOf ids.leaf.log_id.now ids.leaf.record_id.now it.leaf
    pub signed : Signed
    pub checkpoint : IsIn files ids.checkpoint.now IsSigned signed
    pub is_of : it.checkpoint ≡ signed.contents.checkpoint
    pub proof : IsIn files ids.proof.now IsLogProof it.proof

  -- the answer by what they say, if each says something
  abbrev pub IsByLeaf : ShownIds → (ReadLeaf → OutputData → Type 0) → OutputData → Type 0
  IsByLeaf ids P printed =
      IsByWords (IsLeafOf ids.leaf.log_id.now ids.leaf.record_id.now) (λ leaf.
      IsByFile files ids.checkpoint.now IsSigned (λ signed.
      IsByFile files ids.proof.now IsLogProof (λ proof.
      P (record { checkpoint = signed.contents.checkpoint; leaf = leaf; proof = proof })))) printed

  abbrev pub IsLeavesAnswer : List ℕ → ShownIds → ShownIds → OutputData → Type 0
  IsLeavesAnswer place old new printed =
      IsByWords (IsNumber place) (λ index. IsByLeaf old (λ before. IsByLeaf new (AreLeavesCompared index before))) printed

  -- what is said of two views
  abbrev pub IsViewsAnswer : Views → OutputData → Type 0
  IsViewsAnswer (views.Checkpoints old new proof) printed = IsCheckpointsAnswer old.now new.now proof.now printed
  IsViewsAnswer (views.Leaves place old new) printed = IsLeavesAnswer place.now old new printed
  IsViewsAnswer (views.Heads checkpoint log_id one other) printed = IsHeadsAnswer files checkpoint.now log_id.now one other printed
  IsViewsAnswer (views.Beginnings one other new) printed = IsBeginningsAnswer files one other new.now printed
