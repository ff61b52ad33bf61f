-- What two views of a registry show of one another, and the answers by it.
use Rattle.std.proofs.Common.{◌≡◌, ◌↔◌, ℕ, List, Option, Result, refl, sym, ◌∙◌}
use Rattle.std.specs.Prelude.{◌<◌}
use Rattle.warg_registry.specs.declared.checkpoint.Checkpoint.{Checkpoint}
use Rattle.warg_transparency.specs.Forks.{AreShownAt, IsFork, IsLeafFork, IsNotShownToGoOn, IsOneLeaf, IsShownAt, IsShownToGoOn}
use Rattle.warg_transparency.specs.declared.forks.CheckpointComparison.{CheckpointComparison}
use Rattle.warg_transparency.specs.declared.forks.CheckpointComparison.TheVariants as checkpoints
use Rattle.warg_transparency.specs.declared.forks.LeafComparison.{LeafComparison}
use Rattle.warg_transparency.specs.declared.forks.LeafComparison.TheVariants as leaves
use Rattle.warg_transparency.specs.declared.forks.ShownLeaf.{ShownLeaf}
use Rattle.warg_audit.specs.Files.Answers.{Answers, IfOutput}
use Rattle.warg_audit.specs.Files.Files.{Files}
use Rattle.warg_audit.specs.Files.OutputData.{OutputData}
use Rattle.warg_audit.specs.Files.Unusable.{read, unread}
use Rattle.warg_audit.specs.declared.files.command_error.CommandError.{CommandError}
use Rattle.warg_audit.specs.declared.files.command_output.CommandOutput.{CommandOutput}
use Rattle.warg_audit.proofs.FilesLemmas.AnswerLemmas.{Answers-to, IfOutput-to}
use Rattle.tool_checkpoints.specs.CheckpointAnswers.{IsSigned}
use Rattle.tool_checkpoints.specs.Comparisons.{AreCompared, AreLeavesCompared, IsByLeaf, IsCheckpointCase, IsLeafCase, IsRead, IsShown, checkpoint_text, leaf_text}
use Rattle.tool_checkpoints.specs.Proofs.{IsLogProof}
use Rattle.tool_checkpoints.specs.Words.{IsByFile, IsByWords, by_value, unsaid}
use Rattle.tool_checkpoints.specs.declared.compare.ReadLeaf.{ReadLeaf}
use Rattle.tool_checkpoints.proofs.WordLemmas.{by_file}
use Rattle.tool_words.specs.declared.views.ShownIds.{ShownIds}

-- ---- which case it is

module _ (old new : Checkpoint) (proof : List (List ℕ)) where
  checkpoint_case : (case : CheckpointComparison) → ((case ≡ checkpoints.Same) ↔ (old ≡ new)) → ((case ≡ checkpoints.Fork) ↔ IsFork old new)
      → ((case ≡ checkpoints.GoesBack) ↔ (new.log_length < old.log_length)) → ((case ≡ checkpoints.GoesOn) ↔ IsShownToGoOn old new proof)
      → ((case ≡ checkpoints.NotShown) ↔ IsNotShownToGoOn old new proof) → IsCheckpointCase old new proof case
  checkpoint_case checkpoints.Same same fork back on not = same.0 refl
  checkpoint_case checkpoints.GoesOn same fork back on not = on.0 refl
  checkpoint_case checkpoints.GoesBack same fork back on not = back.0 refl
  checkpoint_case checkpoints.Fork same fork back on not = fork.0 refl
  checkpoint_case checkpoints.NotShown same fork back on not = not.0 refl

  -- the line of the case
  pub compared : (case : CheckpointComparison) (printed : OutputData) → ((case ≡ checkpoints.Same) ↔ (old ≡ new))
      → ((case ≡ checkpoints.Fork) ↔ IsFork old new) → ((case ≡ checkpoints.GoesBack) ↔ (new.log_length < old.log_length))
      → ((case ≡ checkpoints.GoesOn) ↔ IsShownToGoOn old new proof) → ((case ≡ checkpoints.NotShown) ↔ IsNotShownToGoOn old new proof)
      → printed ≡ checkpoint_text old.log_length new.log_length case → AreCompared old new proof printed
  compared case printed same fork back on not text =
      record { case = case; is_case = checkpoint_case case same fork back on not; text = text }

-- what the library is shown of a leaf that was read
abbrev IsOf : ReadLeaf → ShownLeaf → Type 0
IsOf it shown = (shown.checkpoint.now ≡ it.checkpoint) × (shown.leaf.now ≡ it.leaf) × (shown.proof.now ≡ it.proof)

was_shown : (place : ℕ) (it : ReadLeaf) (shown : ShownLeaf) → IsOf it shown → IsShownAt place shown → IsShown place it
was_shown place it shown e h = rw (e.0, e.1, e.2) at h

is_shown : (place : ℕ) (it : ReadLeaf) (shown : ShownLeaf) → IsOf it shown → IsShown place it → IsShownAt place shown
is_shown place it shown e h = rw (e.0, e.1, e.2) h

leaf_case : (place : ℕ) (old new : ReadLeaf) (before after : ShownLeaf) (case : LeafComparison) → IsOf old before → IsOf new after
    → ((case ≡ leaves.Same) ↔ IsOneLeaf place before after) → ((case ≡ leaves.Fork) ↔ IsLeafFork place before after)
    → ((case ≡ leaves.NotShown) ↔ (AreShownAt place before after → ⊥)) → IsLeafCase place old new case
leaf_case place old new before after leaves.Same a b same fork not =
    let is = same.0 refl in
    (was_shown place old before a is.shown.old_is, was_shown place new after b is.shown.new_is, sym a.1 ∙ is.one ∙ b.1)
leaf_case place old new before after leaves.Fork a b same fork not =
    let is = fork.0 refl in
    (was_shown place old before a is.shown.old_is, was_shown place new after b is.shown.new_is, λ e. is.differ (a.1 ∙ e ∙ sym b.1))
leaf_case place old new before after leaves.NotShown a b same fork not =
    λ shown. not.0 refl (record { old_is = is_shown place old before a shown.0; new_is = is_shown place new after b shown.1 })

-- the line of the case
pub leaves_compared : (place : ℕ) (old new : ReadLeaf) (before after : ShownLeaf) (case : LeafComparison) (printed : OutputData) → IsOf old before
    → IsOf new after → ((case ≡ leaves.Same) ↔ IsOneLeaf place before after) → ((case ≡ leaves.Fork) ↔ IsLeafFork place before after)
    → ((case ≡ leaves.NotShown) ↔ (AreShownAt place before after → ⊥)) → printed ≡ leaf_text case → AreLeavesCompared place old new printed
leaves_compared place old new before after case printed a b same fork not text =
    record { case = case; is_case = leaf_case place old new before after case a b same fork not; text = text }

-- ---- answers by leaves that are read

pub words_map : {A : Type 0} (Says : A → Type 0) (P Q : A → OutputData → Type 0) (printed : OutputData) → ((it : A) → P it printed → Q it printed)
    → IsByWords Says P printed → IsByWords Says Q printed
words_map Says P Q printed f (unsaid none) = unsaid none
words_map Says P Q printed f (by_value value says h) = by_value value says (f value h)

pub file_map : {A : Type 0} (files : Option Files) (path : List ℕ) (Says : List ℕ → A → Type 0) (P Q : A → OutputData → Type 0) (printed : OutputData)
    → ((it : A) → P it printed → Q it printed) → IsByFile files path Says P printed → IsByFile files path Says Q printed
file_map files path Says P Q printed f (unread h) = unread h
file_map files path Says P Q printed f (read bytes held h) = read bytes held (words_map (Says bytes) P Q printed f h)

module _ (files : Option Files) (ids : ShownIds) (P : ReadLeaf → OutputData → Type 0) where
  -- the answer by the leaf that is read
  pub by_leaf : (it : ReadLeaf) (printed : OutputData) → IsRead files ids it → P it printed → IsByLeaf files ids P printed
  by_leaf it printed h is =
      by_value it.leaf h.leaf (
      by_file _ _ IsSigned _ h.signed h.checkpoint _ (
      by_file _ _ IsLogProof _ it.proof h.proof _ (rw (← h.is_of) is)))

  -- the same of a command's answer
  pub leaf_read : (it : ReadLeaf) (result : Result CommandOutput CommandError) → IsRead files ids it → Answers (P it) result
      → Answers (IsByLeaf files ids P) result
  leaf_read it result h is = Answers-to (P it) (IsByLeaf files ids P) (λ printed. by_leaf it printed h) result is

  none_read : (printed : OutputData) → IsByLeaf files ids (λ it answer. ⊥) printed → IsByLeaf files ids P printed
  none_read printed h =
      words_map _ _ _ printed (λ leaf by_view.
      file_map files ids.checkpoint.now IsSigned _ _ printed (λ signed by_proof.
      file_map files ids.proof.now IsLogProof _ _ printed (λ proof never. absurd never) by_proof) by_view) h

  -- the answer where no leaf is read
  pub leaf_unread : (end : CommandError) → IfOutput (IsByLeaf files ids (λ it printed. ⊥)) end → IfOutput (IsByLeaf files ids P) end
  leaf_unread end h = IfOutput-to (IsByLeaf files ids (λ it printed. ⊥)) (IsByLeaf files ids P) none_read end h
