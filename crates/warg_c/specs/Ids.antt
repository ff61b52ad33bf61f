-- The id of an envelope's record.
use Rattle.std.specs.Prelude.{◌≡◌, ℕ, zero, suc, List, Option, Some, Result, Ok, Err}
use Rattle.warg_crypto.specs.declared.coding.DecodeError.{DecodeError}
use Rattle.warg_envelope.specs.EnvelopeData.{EnvelopeData}
use Rattle.warg_envelope.specs.Envelopes.{envelope_of}
use Rattle.warg_envelope.specs.Readings.{Reading}
use Rattle.warg_operator_log.specs.StateLaws.{operator_log}
use Rattle.warg_package_log.specs.StateLaws.{package_log}
use Rattle.warg_log_records.specs.Readings.{operator_reading, package_reading}
use Rattle.warg_log_records.specs.Kinds.{Kind}
use Rattle.warg_replay.specs.Logs.{LogOf}
use Rattle.warg_replay.specs.LogWords.{named_cause}
use Rattle.warg_replay.specs.Inputs.{Cause, Unread}
use Rattle.warg_replay.specs.declared.replay.RunCause.{RunCause}
use Rattle.warg_c.specs.declared.call_error.CallError.{CallError}
use Rattle.warg_c.specs.declared.call_error.CallError.TheVariants.{OutOfMemory, TooSmall, NoEnvelope, BadArgument}
use Rattle.warg_c.specs.AppendAnswers.{operator_says, package_says}
use Rattle.warg_c.specs.Logs.{HasErrorText}
use Rattle.warg_c.specs.Lookups.{IdText}
use Rattle.warg_c.specs.ArgumentErrors.{argument_error_text}
use Rattle.warg_c.specs.Texts.{IsGiven, NeedsRoom}
use Rattle.warg_c.specs.declared.argument_error.ArgumentError.TheVariants.{NoKind}

module _ {View Offence F : Type 0} (k : Kind View Offence) (read : List ℕ → Result EnvelopeData F) where
  -- the text is that of the id of the record of these bytes
  abbrev pub IsIdOf : List ℕ → List ℕ → Type 0
  IsIdOf envelope text = (e : EnvelopeData) × (read envelope ≡ Ok e) × IdText (Some (k.id e.content)) text

  module _ {E : Type 0} (named_by : RunCause E → Option (Cause F Offence)) (SaysBy : RunCause E → List ℕ → Type 0) where
    -- the bytes are no envelope, and the error's text is given
    abbrev pub IsNoEnvelope : List ℕ → ℕ → List ℕ → Type 0
    IsNoEnvelope envelope used new = (fault : F) × (read envelope ≡ Err fault) × HasErrorText k read named_by SaysBy (Unread fault) used new

    -- why there is no id; of bytes that are no envelope the error's text is given
    abbrev pub IdErrors : List ℕ → List ℕ → ℕ → List ℕ → CallError → Type 0
    IdErrors envelope old used new OutOfMemory = Unit {0}
    IdErrors envelope old used new TooSmall = NeedsRoom (IsIdOf envelope) used old
    IdErrors envelope old used new NoEnvelope = IsNoEnvelope envelope used new
    IdErrors envelope old used new f = ⊥

-- the same in words that take the log and how its records are read
module _ {S E View Offence C M F : Type 0} {kind : Kind View Offence} {view : S → View} {offence_of : E → Option Offence} {read : List ℕ → Result M F} {meaning : C → M} {fault_of : DecodeError → Option F} (log : LogOf kind view offence_of) (reading : Reading read meaning fault_of) where
  -- the text is that of the id of the record of these bytes
  abbrev pub IsIdIn : List ℕ → List ℕ → Type 0
  IsIdIn envelope text = IsIdOf kind (envelope_of read) envelope text

  -- the bytes are no envelope, and the error's text is given
  abbrev pub IsNoEnvelopeIn : (RunCause E → List ℕ → Type 0) → List ℕ → ℕ → List ℕ → Type 0
  IsNoEnvelopeIn Says envelope used new = IsNoEnvelope kind (envelope_of read) (named_cause log reading) Says envelope used new

  -- why there is no id
  abbrev pub IdErrorsIn : (RunCause E → List ℕ → Type 0) → List ℕ → List ℕ → ℕ → List ℕ → CallError → Type 0
  IdErrorsIn Says envelope old used new f = IdErrors kind (envelope_of read) (named_cause log reading) Says envelope old used new f

-- the text is that of the id of the record that the bytes say, of a log of the kind that the number names
abbrev pub id_tells : ℕ → List ℕ → List ℕ → Type 0
id_tells zero envelope text = IsIdIn package_log package_reading envelope text
id_tells (suc zero) envelope text = IsIdIn operator_log operator_reading envelope text
id_tells (suc (suc n)) envelope text = ⊥

-- the bytes are no envelope of such a record, and the error's text is given
abbrev pub is_no_envelope : ℕ → List ℕ → ℕ → List ℕ → Type 0
is_no_envelope zero envelope used new = IsNoEnvelopeIn package_log package_reading package_says envelope used new
is_no_envelope (suc zero) envelope used new = IsNoEnvelopeIn operator_log operator_reading operator_says envelope used new
is_no_envelope (suc (suc n)) envelope used new = ⊥

-- why there is no id; the number may name no kind, and then that is told
abbrev pub id_errors : ℕ → List ℕ → List ℕ → ℕ → List ℕ → CallError → Type 0
id_errors zero envelope old used new f = IdErrorsIn package_log package_reading package_says envelope old used new f
id_errors (suc zero) envelope old used new f = IdErrorsIn operator_log operator_reading operator_says envelope old used new f
id_errors (suc (suc n)) envelope old used new f = (f ≡ BadArgument) × IsGiven (argument_error_text NoKind) used new
