-- What the words of questions say is what they say by the parts: each law has the word, and the same without words.
use Rattle.std.proofs.Common.{◌≡◌, ◌↔◌, ℕ, Bool, List, Option, Result}
use Rattle.warg_protocol.specs.Errors.{DecodeError}
use Rattle.warg_protocol.specs.Json.{JsonError, JsonTextError}
use Rattle.warg_protocol.specs.Logs.{Effects, DecodedEnvelope, EnvelopeData, Kind, SignatureRelation}
use Rattle.warg_envelope.specs.Readings.{Reading}
use Rattle.warg_log.specs.declared.head.Head.{Head}
use Rattle.warg_replay.specs.Logs.{LogOf}
use Rattle.warg_audit.specs.Files.Files.{Files}
use Rattle.warg_audit.specs.Files.Texts.{no}
use Rattle.warg_audit.specs.LogAnswers.{LogDisplay}
use Rattle.warg_audit.specs.Printouts.{OutputData}
use Rattle.tool_answers.specs.Explanations.{Explains}
use Rattle.tool_answers.specs.ShownWords.{RecordWords}
use Rattle.tool_answers.specs.Tools.{ToolOf}
use Rattle.tool_questions.specs.QuestionAnswers.{IsQuestionAnswer}
use Rattle.tool_questions.specs.QuestionWords.{askable}
use Rattle.tool_questions.specs.Show.ShowWords as word
use Rattle.tool_questions.specs.Show.ShownLogs.{IsCutText, IsRunErrorText, IsShown, IsShownOf}
use Rattle.tool_words.specs.declared.request.LogQuery.{LogQuery}

module _ {S E View Offence C M F P : Type 0} {kind : Kind View Offence} {view : S → View}
    {offence_of : E → Option Offence} {read : List ℕ → Result M F} {meaning : C → M}
    {fault_of : DecodeError → Option F} {order : List P} {text_of : P → List ℕ}
    {knows has_key : S → List ℕ → Bool} {json_of : S → Result (List ℕ) JsonError}
    {state_of : List ℕ → Result S JsonTextError} {words_of : C → RecordWords}
    {says_words : List ℕ → RecordWords → Type 0} {sentence_of : E → List ℕ}
    {shows : List EnvelopeData → List ℕ → Type 0}
    (log : LogOf kind view offence_of) (reading : Reading read meaning fault_of)
    (tool : ToolOf order text_of knows has_key json_of state_of words_of says_words sentence_of shows)
    (shown : LogDisplay M F View Offence) (b : SignatureRelation) where
  -- `question_answer`
  pub answers_question : (held : View → List ℕ → P → Bool) (effects : Effects P) (last : S → Option Head) (files : Option Files)
      (question : LogQuery) (printed : OutputData)
      → IsQuestionAnswer (askable log tool held effects last shown) says_words b files question printed
      ↔ IsQuestionAnswer (record {
        shown = shown;
        view = view;
        json = json_of;
        reads = state_of;
        has_key = has_key;
        knows = knows;
        held = held;
        order = order;
        text_of = text_of;
        effects = effects;
        last = last;
      }) says_words b files question printed
  answers_question held effects last files question printed = (λ h. h, λ h. h)

  module _ (tells_entry : View → DecodedEnvelope C → Offence → Option ℕ → Type 0) where
    pub reason : (seen : List EnvelopeData → View) (inputs : List (List ℕ)) (v : View) (input : List ℕ) (index : ℕ)
        (text : List ℕ) → word.IsReason log reading tool tells_entry shown b seen inputs v input index text
        ↔ IsRunErrorText shown b
        (Explains sentence_of fault_of offence_of read meaning tells_entry v input)
        seen inputs index text
    reason seen inputs v input index text = (λ h. h, λ h. h)

    pub cut : (seen : List EnvelopeData → View) (inputs : List (List ℕ)) (es : List EnvelopeData) (input : List ℕ)
        (index : ℕ) (text : List ℕ)
        → word.IsCut log reading tool tells_entry shown b seen inputs es input index text
        ↔ IsCutText kind.id says_words (IsRunErrorText shown b
        (Explains sentence_of fault_of offence_of read meaning tells_entry
        (kind.view_of es) input) seen inputs index) es text
    cut seen inputs es input index text = (λ h. h, λ h. h)

    pub cut_printed : (seen : List EnvelopeData → View) (inputs : List (List ℕ)) (es : List EnvelopeData)
        (input : List ℕ) (index : ℕ) (printed : OutputData)
        → word.IsCutPrinted log reading tool tells_entry shown b seen inputs es input index printed
        ↔ ((text : List ℕ) × IsCutText kind.id says_words (IsRunErrorText shown b
        (Explains sentence_of fault_of offence_of read meaning tells_entry
        (kind.view_of es) input) seen inputs index) es text × (printed ≡ no text))
    cut_printed seen inputs es input index printed = (λ h. h, λ h. h)

    pub shown_log : (inputs : List (List ℕ)) (printed : OutputData)
        → word.IsShownLog log reading tool tells_entry shown b inputs printed
        ↔ IsShownOf shown b says_words shows
        (Explains sentence_of fault_of offence_of read meaning tells_entry) inputs printed
    shown_log inputs printed = (λ h. h, λ h. h)

    -- `show_answer` and `show_of_file`
    pub shown_lines : (lines : List (List ℕ)) (printed : OutputData)
        → word.AreShownLines log reading tool tells_entry shown b lines printed
        ↔ IsShown shown b says_words shows
        (Explains sentence_of fault_of offence_of read meaning tells_entry) lines printed
    shown_lines lines printed = (λ h. h, λ h. h)
