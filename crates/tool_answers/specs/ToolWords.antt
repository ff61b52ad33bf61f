-- Why an input can't come next, in words that take the log, how its records are read, and what the tool asks of it.
use Rattle.std.specs.Prelude.{ℕ, Bool, List, Option, Result}
use Rattle.warg_protocol.specs.Errors.{DecodeError}
use Rattle.warg_protocol.specs.Json.{JsonError, JsonTextError}
use Rattle.warg_protocol.specs.Logs.{Cause, DecodedEnvelope, EnvelopeData, EnvelopeFault, Kind}
use Rattle.warg_envelope.specs.Readings.{Reading}
use Rattle.warg_replay.specs.Logs.{LogOf}
use Rattle.tool_answers.specs.Explanations as explanation
use Rattle.tool_answers.specs.ShownWords.{RecordWords}
use Rattle.tool_answers.specs.Tools.{ToolOf}

module _ {S E View Offence C M F P : Type 0} {kind : Kind View Offence} {view : S → View}
    {offence_of : E → Option Offence} {read : List ℕ → Result M F} {meaning : C → M}
    {fault_of : DecodeError → Option F} {order : List P} {text_of : P → List ℕ}
    {knows has_key : S → List ℕ → Bool} {json_of : S → Result (List ℕ) JsonError}
    {state_of : List ℕ → Result S JsonTextError} {words_of : C → RecordWords}
    {says_words : List ℕ → RecordWords → Type 0} {sentence_of : E → List ℕ}
    {shows : List EnvelopeData → List ℕ → Type 0}
    (log : LogOf kind view offence_of) (reading : Reading read meaning fault_of)
    (tool : ToolOf order text_of knows has_key json_of state_of words_of says_words sentence_of shows)
    (tells_entry : View → DecodedEnvelope C → Offence → Option ℕ → Type 0) where
  -- why the input can't come after the view: the error's sentence, and the entry at fault
  abbrev pub Explains : View → List ℕ → Cause (EnvelopeFault F) Offence → List ℕ → Option ℕ → Type 0
  Explains =
      explanation.Explains sentence_of fault_of offence_of read meaning tells_entry
