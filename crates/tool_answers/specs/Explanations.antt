-- Why an input can't come next, in words: a sentence, and the place of the entry that is at fault.
use Rattle.std.specs.Prelude.{◌≡◌, ℕ, List, true, Option, Some, None, Result, Ok, IsErr}
use Rattle.warg_envelope.specs.ErrorTexts.{error_text as fault_text}
use Rattle.warg_operator_log.specs.ErrorTexts.{error_text as operator_error_text}
use Rattle.warg_package_log.specs.ErrorTexts.{error_text as package_error_text}
use Rattle.warg_protocol.specs.Errors.{DecodeError}
use Rattle.warg_protocol.specs.Logs.{Cause, DecodedEnvelope, EnvelopeFault, ContentsMatchBytes, IsEntryTold, LogOffence, RunCause, SignatureRelation, Unlawful, Unread, cause_named_by, envelope_fault_of, envelope_of}
use Rattle.warg_protocol.specs.Operator as in_operator
use Rattle.warg_protocol.specs.Package as in_package
use Rattle.warg_protocol.specs.Records.{RecordFault, fault_of}
use Rattle.warg_protocol.specs.RunCauses.{Parse, Validation}
use Rattle.warg_log_records.specs.declared.log_record.LogRecord.{LogRecord}
use Rattle.warg_log_records.specs.declared.operator.model.OperatorEntry.{OperatorEntry}
use Rattle.warg_log_records.specs.declared.package.model.PackageEntry.{PackageEntry}

-- ---- the sentence

-- the sentence of the error that a cause holds
abbrev pub sentence_by : {E : Type 0} → (E → List ℕ) → RunCause E → List ℕ
sentence_by sentence_of (Parse fault) = fault_text fault
sentence_by sentence_of (Validation error) = sentence_of error

-- the sentence of an error that names the cause
pub record IsSentence {E C : Type 0} (sentence_of : E → List ℕ) (named_by : RunCause E → Option C) (cause : C) (text : List ℕ) : Type 0 where
  pub error : RunCause E
  pub names : named_by error ≡ Some cause
  pub is : text ≡ sentence_by sentence_of error

-- ---- the entry

-- any signature belongs
abbrev pub all_belong : SignatureRelation
all_belong key message signature = true

-- the entry that an offence of a record after a view is of, if it is of one, in package logs and in operator logs
abbrev pub tells_package_entry : in_package.View → DecodedEnvelope (LogRecord PackageEntry) → LogOffence in_package.Permission in_package.OwnOffence → Option ℕ → Type 0
tells_package_entry view it = IsEntryTold (in_package.unsigned_offence view) (in_package.envelope_as_data it)

abbrev pub tells_operator_entry : in_operator.View → DecodedEnvelope (LogRecord OperatorEntry) → LogOffence in_operator.Permission in_operator.OwnOffence → Option ℕ → Type 0
tells_operator_entry view it = IsEntryTold (in_operator.unsigned_offence view) (in_operator.envelope_as_data it)

-- the entry of the record in the envelope that an input is; none of an input that is no envelope
pub data IsEntryOfInput {C M F View Offence : Type 0} (read : List ℕ → Result M F) (meaning : C → M) (tells_entry : View → DecodedEnvelope C → Offence → Option ℕ → Type 0)
    (view : View) (input : List ℕ) (offence : Offence) (entry : Option ℕ) : Type 0 where
  of_record : (it : DecodedEnvelope C) → envelope_of read input ≡ Ok it.envelope → ContentsMatchBytes read meaning it
      → tells_entry view it offence entry → IsEntryOfInput read meaning tells_entry view input offence entry
  of_no_record : IsErr (envelope_of read input) → entry ≡ None → IsEntryOfInput read meaning tells_entry view input offence entry

-- ---- both

module _ {E C M F View Offence : Type 0} (sentence_of : E → List ℕ) (fault_of_error : DecodeError → Option F) (offence_of : E → Option Offence)
    (read : List ℕ → Result M F) (meaning : C → M) (tells_entry : View → DecodedEnvelope C → Offence → Option ℕ → Type 0) where
  -- the entry that the cause is of, if it is of one: none of an input that can't be read
  abbrev pub IsEntryOf : View → List ℕ → Cause (EnvelopeFault F) Offence → Option ℕ → Type 0
  IsEntryOf view input (Unread fault) entry = entry ≡ None
  IsEntryOf view input (Unlawful offence) entry = IsEntryOfInput read meaning tells_entry view input offence entry

  -- why the input can't come after the view: the error's sentence, and the entry at fault
  pub record Explains (view : View) (input : List ℕ) (cause : Cause (EnvelopeFault F) Offence) (why : List ℕ) (entry : Option ℕ) : Type 0 where
    pub sentence : IsSentence sentence_of (cause_named_by (envelope_fault_of fault_of_error) offence_of) cause why
    pub place : IsEntryOf view input cause entry

-- the same of package logs, and of operator logs
abbrev pub explains_package : in_package.View → List ℕ → Cause (EnvelopeFault RecordFault) (LogOffence in_package.Permission in_package.OwnOffence) → List ℕ → Option ℕ → Type 0
explains_package view input cause why entry =
    Explains package_error_text fault_of in_package.offence_of in_package.package_record_of in_package.record_data tells_package_entry
    view input cause why entry

abbrev pub explains_operator : in_operator.View → List ℕ → Cause (EnvelopeFault RecordFault) (LogOffence in_operator.Permission in_operator.OwnOffence) → List ℕ → Option ℕ → Type 0
explains_operator view input cause why entry =
    Explains operator_error_text fault_of in_operator.offence_of in_operator.operator_record_of in_operator.record_data tells_operator_entry
    view input cause why entry
