-- What a registry showed twice, of a log's last record or of the beginning of its log, by the words and the files that a
-- comparison names.
use Rattle.std.specs.Prelude.{◌≡◌, ℕ, List, codes, Option, Some, None}
use Rattle.warg_crypto.specs.declared.hash.AnyHash.{AnyHash}
use Rattle.warg_log_records.specs.declared.record_id.RecordId.{RecordId}
use Rattle.warg_registry.specs.declared.checkpoint.Checkpoint.{Checkpoint}
use Rattle.warg_registry.specs.declared.log_id.LogId.{LogId}
use Rattle.warg_transparency.specs.Contradictions.{ShowsBeginning}
use Rattle.warg_transparency.specs.ShownTwice.{IsBeginningCase, IsHeadCase, ShowsAnswer}
use Rattle.warg_transparency.specs.declared.contradictions.BeginningComparison.{BeginningComparison}
use Rattle.warg_transparency.specs.declared.contradictions.BeginningComparison.TheVariants as beginnings
use Rattle.warg_transparency.specs.declared.contradictions.HeadComparison.{HeadComparison}
use Rattle.warg_transparency.specs.declared.contradictions.HeadComparison.TheVariants as heads
use Rattle.warg_audit.specs.Files.Files.{Files}
use Rattle.warg_audit.specs.Files.OutputData.{OutputData}
use Rattle.warg_audit.specs.Files.Texts.{no, yes}
use Rattle.tool_checkpoints.specs.CheckpointAnswers.{IsSigned, Signed}
use Rattle.tool_checkpoints.specs.Proofs.{IsLogProof, IsMapProof}
use Rattle.tool_checkpoints.specs.Words.{IsByFile, IsByWords, IsIn, IsLogWord, IsRecordWord}
use Rattle.tool_checkpoints.specs.declared.contradictions.ReadBeginning.{ReadBeginning}
use Rattle.tool_checkpoints.specs.declared.contradictions.ReadHead.{ReadHead}
use Rattle.tool_words.specs.declared.views.BeginningFiles.{BeginningFiles}
use Rattle.tool_words.specs.declared.views.HeadWords.{HeadWords}

-- ---- last records

-- the word is the id of a log's last record, or says that there is none
abbrev pub IsHeadWord : List ℕ → Option RecordId → Type 0
IsHeadWord word None = word ≡ codes "none"
IsHeadWord word (Some record_id) = IsRecordWord word record_id

-- both answers are shown of the log under the root
abbrev pub AreHeadsShown : AnyHash → LogId → ReadHead → ReadHead → Type 0
AreHeadsShown root log_id one other = ShowsAnswer root log_id one.head one.proof × ShowsAnswer root log_id other.head other.proof

-- the line of a case
abbrev pub head_text : HeadComparison → OutputData
head_text heads.Same = yes (codes "same\n")
head_text heads.Two = no (codes "two\n")
head_text heads.OneAndNone = no (codes "one and none\n")
head_text heads.NotShown = no (codes "not shown\n")

-- the line says how the answers compare: whether both are shown, and whether they are one
pub record AreHeadsCompared (root : AnyHash) (log_id : LogId) (one other : ReadHead) (printed : OutputData) : Type 0 where
  pub case : HeadComparison
  pub is_case : IsHeadCase (AreHeadsShown root log_id one other) one.head other.head case
  pub text : printed ≡ head_text case

-- ---- beginnings

-- the log of the newer checkpoint is shown to begin with those of both older ones
abbrev pub AreBeginningsShown : Checkpoint → ReadBeginning → ReadBeginning → Type 0
AreBeginningsShown new one other = ShowsBeginning new one.checkpoint one.proof × ShowsBeginning new other.checkpoint other.proof

-- the line of a case
abbrev pub beginning_text : BeginningComparison → OutputData
beginning_text beginnings.Same = yes (codes "same\n")
beginning_text beginnings.Fork = no (codes "fork\n")
beginning_text beginnings.Collision = no (codes "collision\n")
beginning_text beginnings.TwoLengths = no (codes "two lengths\n")
beginning_text beginnings.NotShown = no (codes "not shown\n")

-- the line says how the older checkpoints compare: whether both are shown, and whether they are one
pub record AreBeginningsCompared (new : Checkpoint) (one other : ReadBeginning) (printed : OutputData) : Type 0 where
  pub case : BeginningComparison
  pub is_case : IsBeginningCase (AreBeginningsShown new one other) one.checkpoint other.checkpoint case
  pub text : printed ≡ beginning_text case

-- ---- answers, by words and files, in the order in which they are read

module _ (files : Option Files) where
  -- the word and the file say the answer and its proof
  pub record IsReadHead (words : HeadWords) (it : ReadHead) : Type 0 where
    pub head : IsHeadWord words.record_id.now it.head
    pub proof : IsIn files words.proof.now IsMapProof it.proof

  -- what is printed by what they say, if each says something
  abbrev pub IsByHead : HeadWords → (ReadHead → OutputData → Type 0) → OutputData → Type 0
  IsByHead words P printed =
      IsByWords (IsHeadWord words.record_id.now) (λ head.
      IsByFile files words.proof.now IsMapProof (λ proof. P (record { head = head; proof = proof }))) printed

  abbrev pub IsHeadsAnswer : List ℕ → List ℕ → HeadWords → HeadWords → OutputData → Type 0
  IsHeadsAnswer checkpoint_path log_id one other printed =
      IsByWords (IsLogWord log_id) (λ log.
      IsByFile files checkpoint_path IsSigned (λ signed.
      IsByHead one (λ it. IsByHead other (AreHeadsCompared signed.contents.checkpoint.map_root log it)))) printed

  -- the files say the older checkpoint and its proof
  pub record IsReadBeginning (paths : BeginningFiles) (it : ReadBeginning) : Type 0 where
    pub signed : Signed
    pub checkpoint : IsIn files paths.checkpoint.now IsSigned signed
    pub is_of : it.checkpoint ≡ signed.contents.checkpoint
    pub proof : IsIn files paths.proof.now IsLogProof it.proof

  -- what is printed by what they say, if each says something
  abbrev pub IsByBeginning : BeginningFiles → (ReadBeginning → OutputData → Type 0) → OutputData → Type 0
  IsByBeginning paths P printed =
      IsByFile files paths.checkpoint.now IsSigned (λ signed.
      IsByFile files paths.proof.now IsLogProof (λ proof.
      P (record { checkpoint = signed.contents.checkpoint; proof = proof }))) printed

  abbrev pub IsBeginningsAnswer : BeginningFiles → BeginningFiles → List ℕ → OutputData → Type 0
  IsBeginningsAnswer one other new_path printed =
      IsByBeginning one (λ it. IsByBeginning other (λ another.
      IsByFile files new_path IsSigned (λ new. AreBeginningsCompared new.contents.checkpoint it another))) printed
