-- Why a checkpoint is not taken, and the bytes of a leaf.
use Rattle.std.proofs.Common.{inr, ℕ, List}
use Rattle.std.specs.Prelude.{Result, IfErr}
use Rattle.std.specs.Str.{IsUtf8}
use Rattle.std.proofs.lemmas.Result.{IfErr-weaker}
use Rattle.warg_crypto.specs.NamedBytes.{NamedBytes}
use Rattle.warg_operator_log.specs.State.{View}
use Rattle.warg_registry.specs.declared.checkpoint.TimestampedCheckpoint.{TimestampedCheckpoint}
use Rattle.warg_c.specs.CheckpointAnswers.{KeyErrors, Signs, StateErrors}
use Rattle.warg_c.specs.declared.call_error.CallError.{CallError}
use Rattle.warg_c.specs.declared.call_error.CallError.TheVariants.{NotOpen, OutOfMemory, TooSmall, NoEnvelope, Refused, Absent, BadArgument, UnknownAlgorithm}

module _ (log : View) (key_id signature : List ℕ) (c : TimestampedCheckpoint) (key : NamedBytes) where
  -- what is wrong under the key that may sign is why the checkpoint is not taken
  under-key : Signs log key_id key → IsUtf8 key_id → (f : CallError) → KeyErrors key signature c f → StateErrors log key_id signature c f
  under-key signer utf8 NotOpen wrong = wrong
  under-key signer utf8 OutOfMemory wrong = utf8
  under-key signer utf8 TooSmall wrong = wrong
  under-key signer utf8 NoEnvelope wrong = wrong
  under-key signer utf8 Refused wrong = inr (key, signer, wrong)
  under-key signer utf8 Absent wrong = wrong
  under-key signer utf8 BadArgument wrong = inr wrong
  under-key signer utf8 UnknownAlgorithm wrong = (key, signer, wrong)

  pub state-errors : Signs log key_id key → IsUtf8 key_id → {T : Type 0} → (r : Result T CallError) → IfErr r (KeyErrors key signature c) → IfErr r (StateErrors log key_id signature c)
  state-errors signer utf8 r wrong = IfErr-weaker r (KeyErrors key signature c) (StateErrors log key_id signature c) (under-key signer utf8) wrong
