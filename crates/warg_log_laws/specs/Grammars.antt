-- The reading of a log by the grammar of envelopes: a relation between inputs and envelopes, which nothing
-- computes.
use Rattle.std.specs.Prelude.{◌≡◌, ℕ, ◌<◌, List, length, take, Option, Some, Result, Ok, Err, slice_get}
use Rattle.std.specs.List.{AllZip}
use Rattle.warg_envelope.specs.EnvelopeData.{EnvelopeData}
use Rattle.warg_log_records.specs.Kinds.{SignatureRelation, Kind, IsAccepted, StandsFor}
use Rattle.warg_replay.specs.OutcomeRuns.{IfNamed}
use Rattle.warg_replay.specs.Inputs.{Cause, Unread, Unlawful}
use Rattle.warg_replay.specs.declared.replay.RunCause.{RunCause}
use Rattle.warg_replay.specs.declared.replay.RunError.{RunError}

module _ {View Offence F : Type 0} (k : Kind View Offence) (b : SignatureRelation) (IsEnvelope : List ℕ → EnvelopeData → Type 0) (HasFault : List ℕ → F → Type 0) where
  -- why the input can't come after the view: it has the fault, or is an envelope with the offence
  abbrev pub IsCause : View → List ℕ → Cause F Offence → Type 0
  IsCause v s (Unread f) = HasFault s f
  IsCause v s (Unlawful o) = (e : EnvelopeData) × (IsEnvelope s e × (k.offence b v e ≡ Some o))

  -- the inputs are the envelopes, each the one at its place, and these are accepted
  pub record IsLog (ss : List (List ℕ)) (es : List EnvelopeData) : Type 0 where
    pub envelopes : AllZip IsEnvelope ss es
    pub accepted : IsAccepted k b es

  -- the inputs before the place are a log, after which the one there can't come: for the cause, if one is
  -- told
  pub record IsRefusedAt (ss : List (List ℕ)) (place : ℕ) (cause : Option (Cause F Offence)) : Type 0 where
    pub within : place < length ss
    pub before : List EnvelopeData
    pub log : IsLog (take place ss) before
    pub first : IfNamed cause (λ c. (s : List ℕ) × ((slice_get ss place ≡ Some s)
        × IsCause (k.view_of before) s c))

  -- a state that stands for the log that the inputs are, or an error
  abbrev pub IsReading : {S E : Type 0} → (S → View) → (RunCause E → Option (Cause F Offence))
      → List (List ℕ) → Result S (RunError E) → Type 0
  IsReading view named_by ss (Ok s) =
      (es : List EnvelopeData) × (IsLog ss es × StandsFor k view s es)
  IsReading view named_by ss (Err error) = IsRefusedAt ss error.index (named_by error.cause)
