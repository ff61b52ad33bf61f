-- What is printed of logs in words.
use Rattle.std.specs.Prelude.{◌≡◌, ℕ, ◌+◌, List, [], ◌∷◌, ◌++◌, codes, take, Option, Some, None}
use Rattle.std.specs.Fmt.{decimal}
use Rattle.std.specs.List.{AllZip, slice_get}
use Rattle.warg_protocol.specs.Logs.{Cause, DecodedEnvelope, EnvelopeData, EnvelopeFault, HasNoOffence, IsFirstOffence, SignatureRelation, envelope_of}
use Rattle.warg_protocol.specs.Records.{RecordId, hash_text}
use Rattle.warg_audit.specs.LogAnswers.{LogDisplay, cause_name, head_text, run_error, view_of}
use Rattle.warg_audit.specs.Files.Lines.{IsFirstBad, Spell}
use Rattle.warg_audit.specs.Printouts.{OutputData, bad_line}
use Rattle.tool_answers.specs.ShownWords.{IsLineOf, IsRecordLine, RecordWords}
use Rattle.warg_audit.specs.Files.Texts.{line, no, yes}
use Rattle.warg_printable.specs.Printable.{printable}
use Rattle.tool_answers.specs.Verdicts.{envelopes_of}
use Rattle.tool_questions.specs.Show.Advice.{advice_on}

-- what is said of a record, behind its id
abbrev pub behind_id : RecordId → List ℕ → List ℕ
behind_id id said = hash_text id.hash ++ (codes " " ++ said)

-- the same on a line, behind its place
abbrev pub placed_line : ℕ → List ℕ → List ℕ
placed_line place said = line (printable (decimal place ++ (codes " " ++ said)))

-- the place of a record and its id, with a space behind each
abbrev pub place_and_id : ℕ → RecordId → List ℕ
place_and_id place id = decimal place ++ (codes " " ++ (hash_text id.hash ++ codes " "))

-- the lines of records in order, each behind its place
abbrev pub lines_with_places : ℕ → List (List ℕ) → List ℕ
lines_with_places place [] = []
lines_with_places place (said ∷ more) = placed_line place said ++ lines_with_places (place + 1) more

-- the line of a head
abbrev pub head_line : Option RecordId → List ℕ
head_line head = line (printable (codes "head " ++ head_text head))

-- the line of the entry that an offence is of, if it is of one
abbrev pub entry_line : Option ℕ → List ℕ
entry_line None = []
entry_line (Some entry) = line (printable (codes "entry: " ++ decimal entry))

-- why a record is refused, by its parts: the error's sentence, the entry that it is of, and what a publisher can do
abbrev pub cause_words : List ℕ → Option ℕ → List ℕ → List ℕ
cause_words why entry advice = line (printable (codes "why: " ++ why)) ++ (entry_line entry ++ line (printable (codes "try: " ++ advice)))

-- ---- records

-- the text is what P holds of, behind the id
abbrev pub IsBehindId : RecordId → (List ℕ → Type 0) → List ℕ → Type 0
IsBehindId id P text = (said : List ℕ) × P said × (text ≡ behind_id id said)

-- the line of the record that an envelope holds, behind its place
abbrev pub IsPlacedLine : {C : Type 0} → (List ℕ → RecordId) → (C → RecordWords) → ℕ → DecodedEnvelope C → List ℕ → Type 0
IsPlacedLine id words_of place it line =
    (shown : List ℕ) × IsBehindId (id it.envelope.content) (IsRecordLine it.envelope.key_id (words_of it.contents)) shown × (line ≡ placed_line place shown)

-- a line for each record that an envelope holds, in order, by the ids of content bytes and by what is shown of it
pub record AreEnvelopeLines {C : Type 0} (id : List ℕ → RecordId) (words_of : C → RecordWords) (records : List (DecodedEnvelope C)) (text : List ℕ) : Type 0 where
  pub lines : List (List ℕ)
  pub each : AllZip (λ (it : DecodedEnvelope C) (shown : List ℕ).
      IsBehindId (id it.envelope.content) (IsRecordLine it.envelope.key_id (words_of it.contents)) shown) records lines
  pub is : text ≡ lines_with_places 0 lines

module _ (id : List ℕ → RecordId) (Says : List ℕ → RecordWords → Type 0) where
  -- a line for each envelope, in order: the id of its content bytes, and what is said of the record that they say
  pub record AreRecordLines (envelopes : List EnvelopeData) (text : List ℕ) : Type 0 where
    pub lines : List (List ℕ)
    pub each : AllZip (λ (it : EnvelopeData) (shown : List ℕ). IsBehindId (id it.content) (IsLineOf Says it) shown) envelopes lines
    pub is : text ≡ lines_with_places 0 lines

  -- ---- logs

  -- a line a record, the head, and the state that the records lead to
  pub record IsLogText (head : Option RecordId) (Shows : List EnvelopeData → List ℕ → Type 0) (envelopes : List EnvelopeData) (text : List ℕ) : Type 0 where
    pub records : List ℕ
    pub are_records : AreRecordLines envelopes records
    pub state : List ℕ
    pub is_state : Shows envelopes state
    pub is : text ≡ records ++ (head_line head ++ state)

  -- a line for each record before the one that is refused, and why that is
  pub record IsCutText (Refuses : List ℕ → Type 0) (envelopes : List EnvelopeData) (text : List ℕ) : Type 0 where
    pub records : List ℕ
    pub are_records : AreRecordLines envelopes records
    pub refused : List ℕ
    pub refuses : Refuses refused
    pub is : text ≡ records ++ refused

module _ {Meaning Fault View Offence : Type 0} (log : LogDisplay Meaning Fault View Offence) (belongs : SignatureRelation) where
  -- the input at the index is the first that is refused: the audit's line; then the error's sentence, the entry at fault
  -- and what a publisher can do
  pub record IsRunErrorText (Explains : Cause (EnvelopeFault Fault) Offence → List ℕ → Option ℕ → Type 0) (seen : List EnvelopeData → View)
      (inputs : List (List ℕ)) (index : ℕ) (text : List ℕ) : Type 0 where
    pub cause : Cause (EnvelopeFault Fault) Offence
    pub first : IsFirstOffence log.kind belongs (envelope_of log.read) seen inputs index cause
    pub why : List ℕ
    pub entry : Option ℕ
    pub explains : Explains cause why entry
    pub is : text ≡ (run_error log index cause).text ++ cause_words why entry (advice_on (cause_name log.fault_name log.offence_name cause))

  module _ (Says : List ℕ → RecordWords → Type 0) (Shows : List EnvelopeData → List ℕ → Type 0)
      (Explains : View → List ℕ → Cause (EnvelopeFault Fault) Offence → List ℕ → Option ℕ → Type 0) where
    -- what is printed of inputs, by what is shown of a record and of a state, and what explains an error: the log in words;
    -- or the records before the first that is refused, and why that is
    pub data IsShownOf (inputs : List (List ℕ)) (printed : OutputData) : Type 0 where
      of_log : (text : List ℕ) → HasNoOffence log.kind belongs (envelope_of log.read) log.kind.view_of inputs
          → IsLogText log.kind.id Says (log.kind.head (view_of log inputs)) Shows (envelopes_of log inputs) text → printed ≡ yes text → IsShownOf inputs printed
      of_refused : (index : ℕ) (input text : List ℕ) → slice_get inputs index ≡ Some input
          → IsCutText log.kind.id Says (IsRunErrorText (Explains (view_of log (take index inputs)) input) log.kind.view_of inputs index)
          (envelopes_of log (take index inputs)) text
          → printed ≡ no text → IsShownOf inputs printed

    -- what is printed to lines: of the first that spells no bytes, or of the inputs that they spell
    pub data IsShown (lines : List (List ℕ)) (printed : OutputData) : Type 0 where
      first_bad : (index : ℕ) → IsFirstBad lines index → printed ≡ bad_line index → IsShown lines printed
      of_inputs : (inputs : List (List ℕ)) → Spell lines inputs → IsShownOf inputs printed → IsShown lines printed
