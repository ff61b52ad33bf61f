-- What a registry showed twice, and the answers by it.
use Rattle.std.proofs.Common.{◌≡◌, ◌↔◌, ℕ, List, Option, Some, None, Result, Ok, codes, refl, sym, ◌∙◌}
use Rattle.warg_crypto.specs.declared.hash.AnyHash.{AnyHash}
use Rattle.warg_log_records.specs.declared.record_id.RecordId.{RecordId}
use Rattle.warg_registry.specs.declared.checkpoint.Checkpoint.{Checkpoint}
use Rattle.warg_registry.specs.declared.log_id.LogId.{LogId}
use Rattle.warg_transparency.specs.Contradictions.{ShowsBeginning}
use Rattle.warg_transparency.specs.ShownTwice as library
use Rattle.warg_transparency.specs.ShownTwice.{AreHeadAndNone, AreTwoHeads, AreTwoLengths, IsBeginningCase, IsBeginningCollision, IsBeginningFork}
use Rattle.warg_transparency.specs.ShownTwice.{IsHeadCase, IsOneBeginning, IsOneHead, IsShownBeginning, IsShownHead, ShowsAnswer}
use Rattle.warg_transparency.specs.declared.contradictions.BeginningComparison.{BeginningComparison}
use Rattle.warg_transparency.specs.declared.contradictions.BeginningComparison.TheVariants as beginnings
use Rattle.warg_transparency.specs.declared.contradictions.HeadComparison.{HeadComparison}
use Rattle.warg_transparency.specs.declared.contradictions.HeadComparison.TheVariants as heads
use Rattle.warg_transparency.specs.declared.contradictions.ShownBeginning.{ShownBeginning}
use Rattle.warg_transparency.specs.declared.contradictions.ShownHead.{ShownHead}
use Rattle.warg_audit.specs.Files.Answers.{Answers, IfOutput}
use Rattle.warg_audit.specs.Files.Files.{Files}
use Rattle.warg_audit.specs.Files.OutputData.{OutputData}
use Rattle.warg_audit.specs.declared.files.command_error.CommandError.{CommandError}
use Rattle.warg_audit.specs.declared.files.command_output.CommandOutput.{CommandOutput}
use Rattle.warg_audit.proofs.FilesLemmas.AnswerLemmas.{Answers-to, IfOutput-to}
use Rattle.tool_checkpoints.specs.CheckpointAnswers.{IsSigned}
use Rattle.tool_checkpoints.specs.Proofs.{IsLogProof, IsMapProof}
use Rattle.tool_checkpoints.specs.ShownTwice.{AreBeginningsCompared, AreBeginningsShown, AreHeadsCompared, AreHeadsShown, IsByBeginning, IsByHead}
use Rattle.tool_checkpoints.specs.ShownTwice.{IsHeadWord, IsReadBeginning, IsReadHead, beginning_text, head_text}
use Rattle.tool_checkpoints.specs.Words.{IsRecordWord, by_value}
use Rattle.tool_checkpoints.specs.declared.contradictions.ReadBeginning.{ReadBeginning}
use Rattle.tool_checkpoints.specs.declared.contradictions.ReadHead.{ReadHead}
use Rattle.tool_checkpoints.proofs.ViewLemmas.{file_map, words_map}
use Rattle.tool_checkpoints.proofs.WordLemmas.{by_file}
use Rattle.tool_words.specs.declared.views.BeginningFiles.{BeginningFiles}
use Rattle.tool_words.specs.declared.views.HeadWords.{HeadWords}

-- ---- last records

-- a word that is not `none` says a record's id alone
pub head_said : (word : List ℕ) → (word ≡ codes "none" → ⊥) → (head : Option RecordId) → IsHeadWord word head
    → (record_id : RecordId) × IsRecordWord word record_id
head_said word other None h = absurd (other h)
head_said word other (Some record_id) h = (record_id, h)

-- what the library is shown of an answer that was read
abbrev IsOfHead : ReadHead → ShownHead → Type 0
IsOfHead it shown = (shown.head ≡ it.head) × (shown.proof.now ≡ it.proof)

module _ (root : AnyHash) (log_id : LogId) where
  head_was_shown : (it : ReadHead) (shown : ShownHead) → IsOfHead it shown → IsShownHead root log_id shown
      → ShowsAnswer root log_id it.head it.proof
  head_was_shown it shown e h = rw (e.0, e.1) at h

  head_is_shown : (it : ReadHead) (shown : ShownHead) → IsOfHead it shown → ShowsAnswer root log_id it.head it.proof
      → IsShownHead root log_id shown
  head_is_shown it shown e h = rw (e.0, e.1) h

  module _ (one other : ReadHead) (before after : ShownHead) (a : IsOfHead one before) (b : IsOfHead other after) where
    heads_were_shown : library.AreHeadsShown root log_id before after → AreHeadsShown root log_id one other
    heads_were_shown h = (head_was_shown one before a h.one_is, head_was_shown other after b h.other_is)

    head_case : (case : HeadComparison) → ((case ≡ heads.Same) ↔ IsOneHead root log_id before after)
        → ((case ≡ heads.Two) ↔ AreTwoHeads root log_id before after) → ((case ≡ heads.OneAndNone) ↔ AreHeadAndNone root log_id before after)
        → ((case ≡ heads.NotShown) ↔ (library.AreHeadsShown root log_id before after → ⊥))
        → IsHeadCase (AreHeadsShown root log_id one other) one.head other.head case
    head_case heads.Same same two none not =
        let is = same.0 refl in (heads_were_shown is.shown, sym a.0 ∙ is.same ∙ b.0)
    head_case heads.Two same two none not =
        let is = two.0 refl in (heads_were_shown is.shown, rw (a.0, b.0) at is.heads, λ e. is.differ (a.0 ∙ e ∙ sym b.0))
    head_case heads.OneAndNone same two none not =
        let is = none.0 refl in (heads_were_shown is.shown, rw (a.0, b.0) at is.either)
    head_case heads.NotShown same two none not =
        λ shown. not.0 refl (record { one_is = head_is_shown one before a shown.0; other_is = head_is_shown other after b shown.1 })

    -- the line of the case
    pub heads_compared : (case : HeadComparison) (printed : OutputData) → ((case ≡ heads.Same) ↔ IsOneHead root log_id before after)
        → ((case ≡ heads.Two) ↔ AreTwoHeads root log_id before after) → ((case ≡ heads.OneAndNone) ↔ AreHeadAndNone root log_id before after)
        → ((case ≡ heads.NotShown) ↔ (library.AreHeadsShown root log_id before after → ⊥)) → printed ≡ head_text case
        → AreHeadsCompared root log_id one other printed
    heads_compared case printed same two none not text =
        record { case = case; is_case = head_case case same two none not; text = text }

-- ---- beginnings

-- what the library is shown of an older checkpoint that was read
abbrev IsOfBeginning : ReadBeginning → ShownBeginning → Type 0
IsOfBeginning it shown = (shown.checkpoint.now ≡ it.checkpoint) × (shown.proof.now ≡ it.proof)

module _ (new : Checkpoint) where
  beginning_was_shown : (it : ReadBeginning) (shown : ShownBeginning) → IsOfBeginning it shown → IsShownBeginning new shown
      → ShowsBeginning new it.checkpoint it.proof
  beginning_was_shown it shown e h = rw (e.0, e.1) at h

  beginning_is_shown : (it : ReadBeginning) (shown : ShownBeginning) → IsOfBeginning it shown → ShowsBeginning new it.checkpoint it.proof
      → IsShownBeginning new shown
  beginning_is_shown it shown e h = rw (e.0, e.1) h

  module _ (one other : ReadBeginning) (before after : ShownBeginning) (a : IsOfBeginning one before) (b : IsOfBeginning other after) where
    beginnings_were_shown : library.AreBeginningsShown new before after → AreBeginningsShown new one other
    beginnings_were_shown h = (beginning_was_shown one before a h.one_is, beginning_was_shown other after b h.other_is)

    beginning_case : (case : BeginningComparison) → ((case ≡ beginnings.Same) ↔ IsOneBeginning new before after)
        → ((case ≡ beginnings.Fork) ↔ IsBeginningFork new before after) → ((case ≡ beginnings.Collision) ↔ IsBeginningCollision new before after)
        → ((case ≡ beginnings.TwoLengths) ↔ AreTwoLengths new before after)
        → ((case ≡ beginnings.NotShown) ↔ (library.AreBeginningsShown new before after → ⊥))
        → IsBeginningCase (AreBeginningsShown new one other) one.checkpoint other.checkpoint case
    beginning_case beginnings.Same same fork collision lengths not =
        let is = same.0 refl in (beginnings_were_shown is.shown, sym a.0 ∙ is.same ∙ b.0)
    beginning_case beginnings.Fork same fork collision lengths not =
        let is = fork.0 refl in (beginnings_were_shown is.shown, rw (a.0, b.0) at is.one_log, rw (a.0, b.0) at is.fork)
    beginning_case beginnings.Collision same fork collision lengths not =
        let is = collision.0 refl in (beginnings_were_shown is.shown, rw (a.0, b.0) at is.one_length, rw (a.0, b.0) at is.differ)
    beginning_case beginnings.TwoLengths same fork collision lengths not =
        let is = lengths.0 refl in (beginnings_were_shown is.shown, rw (a.0, b.0) at is.differ)
    beginning_case beginnings.NotShown same fork collision lengths not =
        λ shown. not.0 refl (record { one_is = beginning_is_shown one before a shown.0; other_is = beginning_is_shown other after b shown.1 })

    -- the line of the case
    pub beginnings_compared : (case : BeginningComparison) (printed : OutputData) → ((case ≡ beginnings.Same) ↔ IsOneBeginning new before after)
        → ((case ≡ beginnings.Fork) ↔ IsBeginningFork new before after) → ((case ≡ beginnings.Collision) ↔ IsBeginningCollision new before after)
        → ((case ≡ beginnings.TwoLengths) ↔ AreTwoLengths new before after)
        → ((case ≡ beginnings.NotShown) ↔ (library.AreBeginningsShown new before after → ⊥)) → printed ≡ beginning_text case
        → AreBeginningsCompared new one other printed
    beginnings_compared case printed same fork collision lengths not text =
        record { case = case; is_case = beginning_case case same fork collision lengths not; text = text }

-- ---- answers by what is read

module _ (files : Option Files) (words : HeadWords) (P : ReadHead → OutputData → Type 0) where
  -- the answer by the word and the proof that are read
  pub by_head : (it : ReadHead) (printed : OutputData) → IsReadHead files words it → P it printed → IsByHead files words P printed
  by_head it printed h is = by_value it.head h.head (by_file _ _ IsMapProof _ it.proof h.proof _ is)

  -- the same of a command's answer
  pub head_read : (it : ReadHead) (result : Result CommandOutput CommandError) → IsReadHead files words it → Answers (P it) result
      → Answers (IsByHead files words P) result
  head_read it result h is = Answers-to (P it) (IsByHead files words P) (λ printed. by_head it printed h) result is

  no_head : (printed : OutputData) → IsByHead files words (λ it answer. ⊥) printed → IsByHead files words P printed
  no_head printed h =
      words_map _ _ _ printed (λ head by_proof.
      file_map files words.proof.now IsMapProof _ _ printed (λ proof never. absurd never) by_proof) h

  -- the answer where they are not read
  pub head_unread : (end : CommandError) → IfOutput (IsByHead files words (λ it printed. ⊥)) end → IfOutput (IsByHead files words P) end
  head_unread end h = IfOutput-to (IsByHead files words (λ it printed. ⊥)) (IsByHead files words P) no_head end h

module _ (files : Option Files) (paths : BeginningFiles) (P : ReadBeginning → OutputData → Type 0) where
  -- the answer by the checkpoint and the proof that are read
  pub by_beginning : (it : ReadBeginning) (printed : OutputData) → IsReadBeginning files paths it → P it printed
      → IsByBeginning files paths P printed
  by_beginning it printed h is =
      by_file _ _ IsSigned _ h.signed h.checkpoint _ (
      by_file _ _ IsLogProof _ it.proof h.proof _ (rw (← h.is_of) is))

  -- the same of a command's answer
  pub beginning_read : (it : ReadBeginning) (result : Result CommandOutput CommandError) → IsReadBeginning files paths it → Answers (P it) result
      → Answers (IsByBeginning files paths P) result
  beginning_read it result h is = Answers-to (P it) (IsByBeginning files paths P) (λ printed. by_beginning it printed h) result is

  no_beginning : (printed : OutputData) → IsByBeginning files paths (λ it answer. ⊥) printed → IsByBeginning files paths P printed
  no_beginning printed h =
      file_map files paths.checkpoint.now IsSigned _ _ printed (λ signed by_proof.
      file_map files paths.proof.now IsLogProof _ _ printed (λ proof never. absurd never) by_proof) h

  -- the answer where they are not read
  pub beginning_unread : (end : CommandError) → IfOutput (IsByBeginning files paths (λ it printed. ⊥)) end
      → IfOutput (IsByBeginning files paths P) end
  beginning_unread end h =
      IfOutput-to (IsByBeginning files paths (λ it printed. ⊥)) (IsByBeginning files paths P) no_beginning end h
