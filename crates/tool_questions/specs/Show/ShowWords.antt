-- What is printed of logs in words, by what the tool asks of them.
use Rattle.std.specs.Prelude.{◌≡◌, ℕ, Bool, List, Option, Result}
use Rattle.warg_protocol.specs.Errors.{DecodeError}
use Rattle.warg_protocol.specs.Json.{JsonError, JsonTextError}
use Rattle.warg_protocol.specs.Logs.{DecodedEnvelope, EnvelopeData, Kind, SignatureRelation}
use Rattle.warg_envelope.specs.Readings.{Reading}
use Rattle.warg_replay.specs.Logs.{LogOf}
use Rattle.warg_audit.specs.LogAnswers.{LogDisplay}
use Rattle.warg_audit.specs.Files.Texts.{no}
use Rattle.warg_audit.specs.Printouts.{OutputData}
use Rattle.tool_answers.specs.ShownWords.{RecordWords}
use Rattle.tool_answers.specs.Tools.{ToolOf}
use Rattle.tool_answers.specs.ToolWords.{Explains}
use Rattle.tool_questions.specs.Show.ShownLogs.{IsCutText, IsRunErrorText, IsShown, IsShownOf}

module _ {S E View Offence C M F P : Type 0} {kind : Kind View Offence} {view : S → View}
    {offence_of : E → Option Offence} {read : List ℕ → Result M F} {meaning : C → M}
    {fault_of : DecodeError → Option F} {order : List P} {text_of : P → List ℕ}
    {knows has_key : S → List ℕ → Bool} {json_of : S → Result (List ℕ) JsonError}
    {state_of : List ℕ → Result S JsonTextError} {words_of : C → RecordWords}
    {says_words : List ℕ → RecordWords → Type 0} {sentence_of : E → List ℕ}
    {shows : List EnvelopeData → List ℕ → Type 0}
    (log : LogOf kind view offence_of) (reading : Reading read meaning fault_of)
    (tool : ToolOf order text_of knows has_key json_of state_of words_of says_words sentence_of shows)
    (tells_entry : View → DecodedEnvelope C → Offence → Option ℕ → Type 0)
    (shown : LogDisplay M F View Offence) (belongs : SignatureRelation) where
  -- the input at the index is the first that is refused, after envelopes that say this together, and the text is why
  abbrev pub IsReason : (List EnvelopeData → View) → List (List ℕ) → View → List ℕ → ℕ → List ℕ → Type 0
  IsReason seen inputs v input index =
      IsRunErrorText shown belongs (Explains log reading tool tells_entry v input) seen inputs index

  -- the same behind a line for each of those envelopes
  abbrev pub IsCut : (List EnvelopeData → View) → List (List ℕ) → List EnvelopeData → List ℕ → ℕ → List ℕ → Type 0
  IsCut seen inputs es input index text =
      IsCutText kind.id says_words (IsReason seen inputs (kind.view_of es) input index) es text

  -- the same, as what is printed
  abbrev pub IsCutPrinted : (List EnvelopeData → View) → List (List ℕ) → List EnvelopeData → List ℕ → ℕ
      → OutputData → Type 0
  IsCutPrinted seen inputs es input index printed =
      (text : List ℕ) × IsCut seen inputs es input index text × (printed ≡ no text)

  -- what is printed of inputs: the log in words; or what comes before the first that is refused, and why that is
  abbrev pub IsShownLog : List (List ℕ) → OutputData → Type 0
  IsShownLog = IsShownOf shown belongs says_words shows (Explains log reading tool tells_entry)

  -- what is printed to lines: of the first that spells no bytes, or of the inputs that they spell
  abbrev pub AreShownLines : List (List ℕ) → OutputData → Type 0
  AreShownLines = IsShown shown belongs says_words shows (Explains log reading tool tells_entry)
