-- Whether what a registry showed twice under one root can both be so, by the texts of a call.
use Rattle.std.specs.Prelude.{◌≡◌, ◌⊎◌, ℕ, List, [], ◌∷◌, Option, Some, None, Result, Ok, Err, IsOk}
use Rattle.warg_crypto.specs.HashText.{hash_of}
use Rattle.warg_crypto.specs.declared.hash.AnyHash.{AnyHash}
use Rattle.warg_crypto.specs.declared.hash.AnyHashError.{AnyHashError}
use Rattle.warg_log_records.specs.declared.record_id.RecordId.{RecordId}
use Rattle.warg_registry.specs.declared.checkpoint.Checkpoint.{Checkpoint}
use Rattle.warg_registry.specs.declared.log_id.LogId.{LogId}
use Rattle.warg_transparency.specs.Contradictions.{ShowsBeginning}
use Rattle.warg_transparency.specs.ShownTwice.{IsBeginningCase, IsHeadCase, ShowsAnswer}
use Rattle.warg_transparency.specs.Texts.{log_proof_of, map_proof_of}
use Rattle.warg_transparency.specs.declared.contradictions.BeginningComparison.{BeginningComparison}
use Rattle.warg_transparency.specs.declared.contradictions.BeginningComparison.TheVariants as beginnings
use Rattle.warg_transparency.specs.declared.contradictions.HeadComparison.{HeadComparison}
use Rattle.warg_transparency.specs.declared.contradictions.HeadComparison.TheVariants as heads
use Rattle.warg_c.specs.declared.exports.contradictions.AnswerText as declared_answer
use Rattle.warg_c.specs.declared.exports.contradictions.BeginningText as declared_beginning
use Rattle.warg_c.specs.ForkAnswers.{CheckpointText, IsCheckpointText, IsNoCheckpointText, checkpoint_said}
use Rattle.warg_c.specs.ProofAnswers.{AreHashes, AreTwoHashes, IsNoText}

-- the head of a log whose last record has this id
abbrev pub head_of_id : Result AnyHash AnyHashError → Result (Option RecordId) AnyHashError
head_of_id (Ok hash) = Ok (Some (record { hash = hash }))
head_of_id (Err e) = Err e

-- the head that a text says: that of the id, and "" says that there is none
abbrev pub head_of : List ℕ → Result (Option RecordId) AnyHashError
head_of [] = Ok None
head_of (c ∷ cs) = head_of_id (hash_of (c ∷ cs))

-- how a call says an answer about a head: by the text of the head, and that of the proof
abbrev pub AnswerText : Type 0
AnswerText = List ℕ × List ℕ

abbrev pub answer_said : declared_answer.AnswerText → AnswerText
answer_said it = (it.record_id.now, it.proof.now)

-- this is said of the head, and of the path
pub record IsAnswerText (said : AnswerText) (head : Option RecordId) (path : List (List ℕ)) : Type 0 where
  pub head_text : head_of said.0 ≡ Ok head
  pub proof_text : map_proof_of said.1 ≡ Ok path

-- one of the texts is not of its form
abbrev pub IsNoAnswerText : AnswerText → Type 0
IsNoAnswerText said = IsNoText head_of said.0 ⊎ IsNoText map_proof_of said.1

-- the number of a case
abbrev pub head_number : HeadComparison → ℕ
head_number heads.Same = 0
head_number heads.Two = 1
head_number heads.OneAndNone = 2
head_number heads.NotShown = 3

-- the number is that of the case of the answers and the proofs of these texts
pub record AreHeadsCompared (map_root log_id : List ℕ) (one other : AnswerText) (number : ℕ) : Type 0 where
  pub root : AnyHash
  pub log : LogId
  pub one_head : Option RecordId
  pub other_head : Option RecordId
  pub one_path : List (List ℕ)
  pub other_path : List (List ℕ)
  pub case : HeadComparison
  pub root_text : hash_of map_root ≡ Ok root
  pub log_text : hash_of log_id ≡ Ok log.hash
  pub one_text : IsAnswerText one one_head one_path
  pub other_text : IsAnswerText other other_head other_path
  pub is_case : IsHeadCase (ShowsAnswer root log one_head one_path × ShowsAnswer root log other_head other_path) one_head other_head case
  pub number_is : number ≡ head_number case

-- one of the texts is not of its form
abbrev pub AreHeadsNotCompared : (map_root log_id : List ℕ) → AnswerText → AnswerText → Type 0
AreHeadsNotCompared map_root log_id one other = (IsNoText hash_of map_root ⊎ IsNoText hash_of log_id) ⊎ (IsNoAnswerText one ⊎ IsNoAnswerText other)

-- those of the root, the log's id and the first head are of hashes, so that the first proof's text is read
abbrev pub HaveHeadHashes : (map_root log_id : List ℕ) → AnswerText → Type 0
HaveHeadHashes map_root log_id one = AreTwoHashes map_root log_id × IsOk (head_of one.0)

-- how a call says a beginning: by the older checkpoint, and the text of the proof
abbrev pub BeginningText : Type 0
BeginningText = CheckpointText × List ℕ

abbrev pub beginning_said : declared_beginning.BeginningText → BeginningText
beginning_said it = (checkpoint_said it.checkpoint, it.proof.now)

-- this is said of the checkpoint, and of the path
pub record IsBeginningText (said : BeginningText) (checkpoint : Checkpoint) (path : List (List ℕ)) : Type 0 where
  pub checkpoint_text : IsCheckpointText said.0 checkpoint
  pub proof_text : log_proof_of said.1 ≡ Ok path

-- one of the texts is not of its form
abbrev pub IsNoBeginningText : BeginningText → Type 0
IsNoBeginningText said = IsNoCheckpointText said.0 ⊎ IsNoText log_proof_of said.1

-- the number of a case
abbrev pub beginning_number : BeginningComparison → ℕ
beginning_number beginnings.Same = 0
beginning_number beginnings.Fork = 1
beginning_number beginnings.Collision = 2
beginning_number beginnings.TwoLengths = 3
beginning_number beginnings.NotShown = 4

-- how a call says the log of the newer checkpoint: by its length, and the text of its root
abbrev pub NewerText : Type 0
NewerText = ℕ × List ℕ

-- this is said of the log of the checkpoint
pub record IsNewerText (said : NewerText) (checkpoint : Checkpoint) : Type 0 where
  pub length_is : checkpoint.log_length ≡ said.0
  pub root_text : hash_of said.1 ≡ Ok checkpoint.log_root

-- the number is that of the case of the checkpoints and the proofs of these texts
pub record AreBeginningsCompared (newer : NewerText) (one other : BeginningText) (number : ℕ) : Type 0 where
  pub newer_is : Checkpoint
  pub one_is : Checkpoint
  pub other_is : Checkpoint
  pub one_path : List (List ℕ)
  pub other_path : List (List ℕ)
  pub case : BeginningComparison
  pub newer_text : IsNewerText newer newer_is
  pub one_text : IsBeginningText one one_is one_path
  pub other_text : IsBeginningText other other_is other_path
  pub is_case : IsBeginningCase (ShowsBeginning newer_is one_is one_path × ShowsBeginning newer_is other_is other_path) one_is other_is case
  pub number_is : number ≡ beginning_number case

-- one of the texts is not of its form
abbrev pub AreBeginningsNotCompared : NewerText → BeginningText → BeginningText → Type 0
AreBeginningsNotCompared newer one other = IsNoText hash_of newer.1 ⊎ (IsNoBeginningText one ⊎ IsNoBeginningText other)

-- those of the newer root and of the first checkpoint are of hashes, so that the first proof's text is read
abbrev pub HaveBeginningHashes : NewerText → BeginningText → Type 0
HaveBeginningHashes newer one = AreHashes newer.1 one.0.1.0 one.0.1.1
