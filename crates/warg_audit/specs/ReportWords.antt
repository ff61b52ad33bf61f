-- What is printed of logs of a kind, in words that take the log, how its records are read, and what is reported of it.
use Rattle.std.specs.Prelude.{◌≡◌, ℕ, List, length, Option, Result, Ok, IfOk}
use Rattle.warg_crypto.specs.declared.coding.DecodeError.{DecodeError}
use Rattle.warg_envelope.specs.EnvelopeData.{EnvelopeData}
use Rattle.warg_envelope.specs.Envelopes.{envelope_of}
use Rattle.warg_envelope.specs.Readings.{Reading}
use Rattle.warg_log_records.specs.Kinds.{SignatureRelation, Kind}
use Rattle.warg_replay.specs.Logs.{LogOf}
use Rattle.warg_replay.specs.LogWords.{named_cause}
use Rattle.warg_replay.specs.OutcomeRuns as run
use Rattle.warg_replay.specs.declared.replay.RunError.{RunError}
use Rattle.warg_audit.specs.Files.Lines.{inputs_of}
use Rattle.warg_audit.specs.LogAnswers.{LogDisplay, ReportsAs, IsNamedRunError, IsRefused, cause_name}
use Rattle.warg_audit.specs.Printouts.{OutputData}
use Rattle.warg_audit.specs.Reports.{ReportOf}

module _ {S E View Offence C M F : Type 0} {kind : Kind View Offence} {view : S → View}
    {offence_of : E → Option Offence} {read : List ℕ → Result M F} {meaning : C → M}
    {fault_of : DecodeError → Option F} (log : LogOf kind view offence_of)
    (reading : Reading read meaning fault_of) where
  -- the error names the first of the inputs that can't come, and why, by what is seen of those before it
  abbrev pub IsRunError : SignatureRelation → (List EnvelopeData → View) → List (List ℕ) → RunError E → Type 0
  IsRunError b seen inputs error =
      run.IsRunError kind b (envelope_of read) seen (named_cause log reading) inputs error

  -- P of all inputs that the error is of, whatever signatures belong, and whatever is seen
  abbrev pub ForRunError : RunError E
      → (SignatureRelation → (List EnvelopeData → View) → List (List ℕ) → Type 0) → Type 0
  ForRunError error P = (b : SignatureRelation) (seen : List EnvelopeData → View) (inputs : List (List ℕ))
      → IsRunError b seen inputs error → P b seen inputs

  -- the lines spell inputs, and the answer is that to these as a whole log: a state for them all and how many they
  -- are, or the first that can't come, and why
  abbrev pub IsJudged : SignatureRelation → List (List ℕ) → Result (S × ℕ) (RunError E) → Type 0
  IsJudged b lines answer = (inputs : List (List ℕ)) × ((inputs_of lines ≡ Ok inputs)
      × run.IsRun kind b (envelope_of read) kind.view_of (λ (p : S × ℕ). view p.0) (named_cause log reading) ◌≡◌
      inputs answer
      × IfOk answer (λ p. p.1 ≡ length inputs))

  module _ {name_of : E → Option (List ℕ)} {lines_of : S → List ℕ} (report : ReportOf name_of lines_of) where
    -- P of the kind of log as it is shown, by whatever names and lines it reports as
    abbrev pub ForDisplay : (LogDisplay M F View Offence → Type 0) → Type 0
    ForDisplay P = (fault_name : F → List ℕ) (offence_name : Offence → List ℕ) (shown : View → List ℕ)
        → ReportsAs view fault_of offence_of name_of lines_of fault_name offence_name shown
        → P (record {
          kind = kind;
          read = read;
          fault_name = fault_name;
          offence_name = offence_name;
          shown = shown;
        })

    -- what is printed is the error of the first input that can't come, of all inputs that the error is of
    abbrev pub IsRunErrorPrinted : RunError E → OutputData → Type 0
    IsRunErrorPrinted error printed = (b : SignatureRelation) (seen : List EnvelopeData → View)
        → ForDisplay (λ shown. (inputs : List (List ℕ)) → IsRunError b seen inputs error
        → IsRefused shown b seen inputs printed)

    -- what is printed is the place and the name of what the error names
    abbrev pub IsErrorPrinted : RunError E → OutputData → Type 0
    IsErrorPrinted error printed = ForDisplay (λ shown. IsNamedRunError
        (cause_name shown.fault_name shown.offence_name) (named_cause log reading error.cause) error.index printed)
