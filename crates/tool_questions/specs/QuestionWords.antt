-- What is asked of logs, in words that take the log, how its records are read, and what the tool asks of it.
use Rattle.std.specs.Prelude.{ℕ, Bool, List, Option, Result}
use Rattle.warg_protocol.specs.Json.{JsonError, JsonTextError}
use Rattle.warg_protocol.specs.Logs.{Effects, EnvelopeData, Kind}
use Rattle.warg_log.specs.declared.head.Head.{Head}
use Rattle.warg_replay.specs.Logs.{LogOf}
use Rattle.warg_audit.specs.LogAnswers.{LogDisplay}
use Rattle.tool_answers.specs.ShownWords.{RecordWords}
use Rattle.tool_answers.specs.Tools.{ToolOf}
use Rattle.tool_questions.specs.QuestionAnswers.{Askable}

module _ {S E View Offence C P : Type 0} {kind : Kind View Offence} {view : S → View}
    {offence_of : E → Option Offence} {order : List P} {text_of : P → List ℕ} {knows has_key : S → List ℕ → Bool}
    {json_of : S → Result (List ℕ) JsonError} {state_of : List ℕ → Result S JsonTextError}
    {words_of : C → RecordWords} {says_words : List ℕ → RecordWords → Type 0} {sentence_of : E → List ℕ}
    {shows : List EnvelopeData → List ℕ → Type 0}
    (log : LogOf kind view offence_of)
    (tool : ToolOf order text_of knows has_key json_of state_of words_of says_words sentence_of shows) where
  -- the kind of log as questions are asked of it, by what keys hold, what entries do, which record is the last, and how it is shown
  abbrev pub askable : {M F : Type 0} → (View → List ℕ → P → Bool) → Effects P → (S → Option Head) → LogDisplay M F View Offence
      → Askable M F View Offence S P
  askable held effects last shown = record {
    shown = shown;
    view = view;
    json = json_of;
    reads = state_of;
    has_key = has_key;
    knows = knows;
    held = held;
    order = order;
    text_of = text_of;
    effects = effects;
    last = last;
  }
