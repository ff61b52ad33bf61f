-- What is printed of the record that words say, which comes next in a log.
use Rattle.std.specs.Prelude.{◌≡◌, ◌≢◌, ℕ, List, ◌∷◌, ◌++◌, length, Option, Some, None, Ok, IsErr}
use Rattle.hex.specs.Hex.{encode_lower}
use Rattle.warg_crypto.specs.Time.Times.{Time}
use Rattle.warg_crypto.specs.Keys.{public_key_of}
use Rattle.warg_crypto.specs.NamedBytes.{NamedBytes}
use Rattle.warg_protocol.specs.Logs.{Cause, EnvelopeFault, SignatureRelation, envelope_of}
use Rattle.warg_protocol.specs.Records.{RecordId}
use Rattle.warg_replay.specs.OutcomeRuns.{cause_next}
use Rattle.warg_audit.specs.LogAnswers.{LogDisplay, run_error}
use Rattle.warg_audit.specs.Printouts.{OutputData}
use Rattle.tool_changes.specs.Make.NextRecords.{IsMakeError, IsNextEnvelope, IsNextUnsigned}
use Rattle.tool_changes.specs.declared.make.error.EntryFault.{EntryFault}
use Rattle.tool_changes.specs.declared.make.error.MakeError.{MakeError}
use Rattle.tool_changes.specs.declared.make.error.MakeError.TheVariants.{OutOfMemory}
use Rattle.warg_audit.specs.Files.Files.{Files, ReadsLog}
use Rattle.warg_audit.specs.Files.RecordLines.{record_lines, texts}
use Rattle.warg_audit.specs.Files.Texts.{line, yes}
use Rattle.warg_audit.specs.Files.Answers.{IsUnusable}
use Rattle.warg_audit.specs.Files.ReadErrors.{IsLogUnread}
use Rattle.tool_answers.specs.Explanations.{all_belong}
use Rattle.tool_answers.specs.Verdicts.{IsPrintedOf, envelopes_of}
use Rattle.tool_words.specs.declared.task.NewRecord.{NewRecord}
use Rattle.tool_words.specs.declared.task.Signer.{Signer}
use Rattle.tool_words.specs.declared.task.Signer.TheVariants as signer

-- the words of a record's line: the hex of its envelope
abbrev pub signed_line : List ℕ → OutputData
signed_line envelope = yes (line (encode_lower envelope))

-- the line of a record that is to be signed: the hex of the envelope without its signature, a space, and that of the message
abbrev pub unsigned_line : List ℕ → List ℕ → OutputData
unsigned_line envelope message = yes (line (encode_lower envelope ++ 32 ∷ encode_lower message))

module _ {Meaning Fault View Offence : Type 0} (log : LogDisplay Meaning Fault View Offence) (view : View) (count : ℕ) (bytes : List ℕ) where
  -- why the bytes can't come next after what so many records say together, whatever their signature
  abbrev pub cause_whatever_signed : Option (Cause (EnvelopeFault Fault) Offence)
  cause_whatever_signed = cause_next log.kind all_belong (envelope_of log.read) view bytes

  -- they can't, and what the audit of the log with them says is printed
  pub record IsRefusedNext (printed : OutputData) : Type 0 where
    pub cause : Cause (EnvelopeFault Fault) Offence
    pub wrong : cause_whatever_signed ≡ Some cause
    pub is : printed ≡ run_error log count cause

  -- they may come next, and their own line is printed; or they can't
  pub data IsPrintedNext (own printed : OutputData) : Type 0 where
    taken : cause_whatever_signed ≡ None → printed ≡ own → IsPrintedNext own printed
    refused : IsRefusedNext printed → IsPrintedNext own printed

-- by which entries words say, what is wrong with others, and how a record of a kind of log is written and signed
module _ {T : Type 0} (Says : List ℕ → T → Type 0) (Lacks : List ℕ → EntryFault → Type 0) (content : Option RecordId → Time → List T → List ℕ) (prefix : List ℕ)
    {Meaning Fault View Offence : Type 0} (log : LogDisplay Meaning Fault View Offence) (draft : NewRecord) where
  -- the draft's words say no record, so nothing is printed, and the status is 2
  pub record IsUnsaid (printed : OutputData) : Type 0 where
    pub error : MakeError
    pub of_words : error ≢ OutOfMemory
    pub why : IsMakeError Says Lacks draft.clock draft.time.now (texts draft.entries.items) error
    pub nothing : IsUnusable printed

  module _ (view : View) (count : ℕ) where
    -- what is printed of the record that the draft says, and that the toy key of the name signs, next in a log of so many records
    pub data IsMadeByToy (name : List ℕ) (printed : OutputData) : Type 0 where
      signed : (bytes : List ℕ) → IsNextEnvelope Says content prefix (log.kind.head view) name draft.clock draft.time.now (texts draft.entries.items) bytes
          → IsPrintedNext log view count bytes (signed_line bytes) printed → IsMadeByToy name printed
      unsaid : IsUnsaid printed → IsMadeByToy name printed

    -- the same of the record that a key is to sign
    pub data IsMadeForKey (key : NamedBytes) (printed : OutputData) : Type 0 where
      to_be_signed : (envelope message whole : List ℕ)
          → IsNextUnsigned Says content prefix (log.kind.head view) key draft.clock draft.time.now (texts draft.entries.items) envelope message whole
          → IsPrintedNext log view count whole (unsigned_line envelope message) printed → IsMadeForKey key printed
      unsaid_for_key : IsUnsaid printed → IsMadeForKey key printed

    -- the same by the key's text
    pub data IsMadeForText (text : List ℕ) (printed : OutputData) : Type 0 where
      of_key : (key : NamedBytes) → public_key_of text ≡ Ok key → IsMadeForKey key printed → IsMadeForText text printed
      no_key : IsErr (public_key_of text) → IsUnusable printed → IsMadeForText text printed

    -- the same by who signs
    abbrev pub IsMadeBy : Signer → OutputData → Type 0
    IsMadeBy (signer.Toy name) printed = IsMadeByToy name.now printed
    IsMadeBy (signer.KeyText text) printed = IsMadeForText text.now printed

  module _ (belongs : SignatureRelation) where
    -- the same after the inputs of a lawful log: the record names its head
    abbrev pub IsMadeAfter : List (List ℕ) → OutputData → Type 0
    IsMadeAfter inputs printed = IsMadeBy (log.kind.view_of (envelopes_of log inputs)) (length inputs) draft.signer printed

    -- the same by the bytes of a log: the audit's line, where it is not lawful
    abbrev pub IsMadeOf : List ℕ → OutputData → Type 0
    IsMadeOf file printed = IsPrintedOf log belongs IsMadeAfter (record_lines file) printed

    -- the same by the file of a log that may not be there yet, unless it can't be read
    pub data IsMade (old : Option Files) (path : List ℕ) (printed : OutputData) : Type 0 where
      no_file : IsLogUnread printed → IsMade old path printed
      of_log : (file : List ℕ) → ReadsLog old path file → IsMadeOf file printed → IsMade old path printed
