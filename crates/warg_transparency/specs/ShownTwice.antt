-- What a registry shows twice: of the head of one log under one root, and of the beginning of one log. Whether it goes together.
use Rattle.std.specs.Prelude.{◌≡◌, ◌≢◌, ◌⊎◌, ℕ, List, Option, Some, None, IsSome, IsNone}
use Rattle.warg_crypto.specs.declared.hash.AnyHash.{AnyHash}
use Rattle.warg_log_records.specs.declared.record_id.RecordId.{RecordId}
use Rattle.warg_registry.specs.declared.checkpoint.Checkpoint.{Checkpoint}
use Rattle.warg_registry.specs.declared.log_id.LogId.{LogId}
use Rattle.warg_transparency.specs.Contradictions.{ShowsBeginning, ShowsNothing, beginning_inputs, nothing_inputs}
use Rattle.warg_transparency.specs.Forks.{IsFork}
use Rattle.warg_transparency.specs.Heads.{ShowsLeaf, head_leaf, path_inputs_for}
use Rattle.warg_transparency.specs.declared.contradictions.BeginningComparison.{BeginningComparison}
use Rattle.warg_transparency.specs.declared.contradictions.BeginningComparison.TheVariants as beginnings
use Rattle.warg_transparency.specs.declared.contradictions.HeadComparison.{HeadComparison}
use Rattle.warg_transparency.specs.declared.contradictions.HeadComparison.TheVariants as heads
use Rattle.warg_transparency.specs.declared.contradictions.ShownBeginning.{ShownBeginning}
use Rattle.warg_transparency.specs.declared.contradictions.ShownHead.{ShownHead}

-- the proof shows that the map of this root has this head for the log, or nothing
abbrev pub ShowsAnswer : AnyHash → LogId → Option RecordId → List (List ℕ) → Type 0
ShowsAnswer root log_id (Some record_id) proof = ShowsLeaf root log_id (head_leaf record_id) proof
ShowsAnswer root log_id None proof = ShowsNothing root log_id proof

-- what is hashed where that proof is tried
abbrev pub answer_inputs : LogId → Option RecordId → List (List ℕ) → List (List ℕ)
answer_inputs log_id (Some record_id) proof = path_inputs_for log_id (head_leaf record_id) proof
answer_inputs log_id None proof = nothing_inputs log_id proof

-- the answer is shown of the log under the root
abbrev pub IsShownHead : AnyHash → LogId → ShownHead → Type 0
IsShownHead root log_id shown = ShowsAnswer root log_id shown.head shown.proof.now

-- what is hashed where its proof is tried
abbrev pub head_inputs : LogId → ShownHead → List (List ℕ)
head_inputs log_id shown = answer_inputs log_id shown.head shown.proof.now

-- both answers are shown
pub record AreHeadsShown (root : AnyHash) (log_id : LogId) (one other : ShownHead) : Type 0 where
  pub one_is : IsShownHead root log_id one
  pub other_is : IsShownHead root log_id other

-- both answers are shown, and they are one
pub record IsOneHead (root : AnyHash) (log_id : LogId) (one other : ShownHead) : Type 0 where
  pub shown : AreHeadsShown root log_id one other
  pub same : one.head ≡ other.head

-- both answers are shown: two heads that differ
pub record AreTwoHeads (root : AnyHash) (log_id : LogId) (one other : ShownHead) : Type 0 where
  pub shown : AreHeadsShown root log_id one other
  pub heads : IsSome one.head × IsSome other.head
  pub differ : one.head ≢ other.head

-- both answers are shown: a head, and that there is none
pub record AreHeadAndNone (root : AnyHash) (log_id : LogId) (one other : ShownHead) : Type 0 where
  pub shown : AreHeadsShown root log_id one other
  pub either : (IsSome one.head × IsNone other.head) ⊎ (IsNone one.head × IsSome other.head)

-- the case is that of two answers: whether both are shown, and what they are
abbrev pub IsHeadCase : Type 0 → Option RecordId → Option RecordId → HeadComparison → Type 0
IsHeadCase AreShown one other heads.Same = AreShown × (one ≡ other)
IsHeadCase AreShown one other heads.Two = AreShown × (IsSome one × IsSome other) × (one ≢ other)
IsHeadCase AreShown one other heads.OneAndNone = AreShown × ((IsSome one × IsNone other) ⊎ (IsNone one × IsSome other))
IsHeadCase AreShown one other heads.NotShown = AreShown → ⊥

-- the log of the new checkpoint is shown to begin with that of the older one
abbrev pub IsShownBeginning : Checkpoint → ShownBeginning → Type 0
IsShownBeginning new shown = ShowsBeginning new shown.checkpoint.now shown.proof.now

-- what is hashed where its proof is tried
abbrev pub inputs_of : Checkpoint → ShownBeginning → List (List ℕ)
inputs_of new shown = beginning_inputs new shown.checkpoint.now shown.proof.now

-- the log of the new checkpoint is shown to begin with those of both older ones
pub record AreBeginningsShown (new : Checkpoint) (one other : ShownBeginning) : Type 0 where
  pub one_is : IsShownBeginning new one
  pub other_is : IsShownBeginning new other

-- both beginnings are shown, and the checkpoints are one
pub record IsOneBeginning (new : Checkpoint) (one other : ShownBeginning) : Type 0 where
  pub shown : AreBeginningsShown new one other
  pub same : one.checkpoint.now ≡ other.checkpoint.now

-- both beginnings are shown, of one log, and the checkpoints are a fork: the maps' roots differ
pub record IsBeginningFork (new : Checkpoint) (one other : ShownBeginning) : Type 0 where
  pub shown : AreBeginningsShown new one other
  pub one_log : one.checkpoint.now.log_root ≡ other.checkpoint.now.log_root
  pub fork : IsFork one.checkpoint.now other.checkpoint.now

-- both beginnings are shown, of one length, and the logs' roots differ
pub record IsBeginningCollision (new : Checkpoint) (one other : ShownBeginning) : Type 0 where
  pub shown : AreBeginningsShown new one other
  pub one_length : one.checkpoint.now.log_length ≡ other.checkpoint.now.log_length
  pub differ : one.checkpoint.now.log_root ≢ other.checkpoint.now.log_root

-- both beginnings are shown, of two lengths
pub record AreTwoLengths (new : Checkpoint) (one other : ShownBeginning) : Type 0 where
  pub shown : AreBeginningsShown new one other
  pub differ : one.checkpoint.now.log_length ≢ other.checkpoint.now.log_length

-- the case is that of two checkpoints: whether both beginnings are shown, and what they are
abbrev pub IsBeginningCase : Type 0 → Checkpoint → Checkpoint → BeginningComparison → Type 0
IsBeginningCase AreShown one other beginnings.Same = AreShown × (one ≡ other)
IsBeginningCase AreShown one other beginnings.Fork = AreShown × (one.log_root ≡ other.log_root) × IsFork one other
IsBeginningCase AreShown one other beginnings.Collision = AreShown × (one.log_length ≡ other.log_length) × (one.log_root ≢ other.log_root)
IsBeginningCase AreShown one other beginnings.TwoLengths = AreShown × (one.log_length ≢ other.log_length)
IsBeginningCase AreShown one other beginnings.NotShown = AreShown → ⊥
