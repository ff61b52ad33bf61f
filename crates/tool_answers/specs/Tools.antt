-- What the tool asks of a kind of log, as one word for the contracts that speak of it.
use Rattle.std.specs.Prelude.{ℕ, Bool, List, Result}
use Rattle.warg_protocol.specs.Json.{JsonError, JsonTextError}
use Rattle.warg_protocol.specs.Logs.{EnvelopeData}
use Rattle.tool_answers.specs.ShownWords.{RecordWords}

-- The permissions, the keys and the JSON of a kind's states, the words of its records and its errors, and the texts of
-- its states: all that it says stands in its type, and it has one value. So a word that takes it takes them all, and a
-- contract names one in their place.
pub record ToolOf {S E P C : Type 0} (order : List P) (text_of : P → List ℕ) (knows has_key : S → List ℕ → Bool)
    (json_of : S → Result (List ℕ) JsonError) (state_of : List ℕ → Result S JsonTextError)
    (words_of : C → RecordWords) (says_words : List ℕ → RecordWords → Type 0) (sentence_of : E → List ℕ)
    (shows : List EnvelopeData → List ℕ → Type 0) : Type 0 where
