-- What the tool's words say is what they say by the parts: each law has the word, and the same without words.
use Rattle.std.proofs.Common.{◌≡◌, ◌↔◌, ℕ, Bool, List, length, Option, Result}
use Rattle.warg_protocol.specs.Errors.{DecodeError}
use Rattle.warg_protocol.specs.Json.{JsonError, JsonTextError}
use Rattle.warg_protocol.specs.Logs.{Cause, DecodedEnvelope, EnvelopeData, EnvelopeFault, Kind, SignatureRelation}
use Rattle.warg_envelope.specs.Readings.{Reading}
use Rattle.warg_replay.specs.Logs.{LogOf}
use Rattle.warg_audit.specs.LogAnswers.{LogDisplay}
use Rattle.tool_answers.specs.Explanations.{Explains}
use Rattle.tool_answers.specs.ShownWords.{RecordWords}
use Rattle.tool_answers.specs.Tools.{ToolOf}
use Rattle.tool_answers.specs.ToolWords as word
use Rattle.tool_answers.specs.Verdicts.{AreCountedOf, AreEnvelopesOf, ForInputs, IsLawful, IsViewOf}
use Rattle.tool_answers.specs.Verdicts.{StandsForLines, envelopes_of}

module _ {S E View Offence C M F P : Type 0} {kind : Kind View Offence} {view : S → View}
    {offence_of : E → Option Offence} {read : List ℕ → Result M F} {meaning : C → M}
    {fault_of : DecodeError → Option F} {order : List P} {text_of : P → List ℕ}
    {knows has_key : S → List ℕ → Bool} {json_of : S → Result (List ℕ) JsonError}
    {state_of : List ℕ → Result S JsonTextError} {words_of : C → RecordWords}
    {says_words : List ℕ → RecordWords → Type 0} {sentence_of : E → List ℕ}
    {shows : List EnvelopeData → List ℕ → Type 0}
    (log : LogOf kind view offence_of) (reading : Reading read meaning fault_of)
    (tool : ToolOf order text_of knows has_key json_of state_of words_of says_words sentence_of shows)
    (tells_entry : View → DecodedEnvelope C → Offence → Option ℕ → Type 0) where
  pub explained : (v : View) (input : List ℕ) (cause : Cause (EnvelopeFault F) Offence) (why : List ℕ)
      (entry : Option ℕ) → word.Explains log reading tool tells_entry v input cause why entry
      ↔ Explains sentence_of fault_of offence_of read meaning tells_entry v input cause why entry
  explained v input cause why entry = (λ h. h, λ h. h)

module _ {Meaning Fault View Offence : Type 0} (log : LogDisplay Meaning Fault View Offence)
    (b : SignatureRelation) where
  -- `judged`
  pub stands : (lines : List (List ℕ)) (view : View) (count : ℕ) → StandsForLines log b lines view count
      ↔ ((inputs : List (List ℕ))
      × (IsLawful log b lines inputs × IsViewOf log view inputs × (count ≡ length inputs)))
  stands lines view count = (λ h. h, λ h. h)

  -- `kept` and `side`
  pub are_envelopes : (lines : List (List ℕ)) (es : List EnvelopeData) → AreEnvelopesOf log b lines es
      ↔ ((inputs : List (List ℕ)) × (IsLawful log b lines inputs × (es ≡ envelopes_of log inputs)))
  are_envelopes lines es = (λ h. h, λ h. h)

  -- `counted`
  pub are_counted : (lines : List (List ℕ)) (es : List EnvelopeData) (count : ℕ) → AreCountedOf log b lines es count
      ↔ ((inputs : List (List ℕ))
      × (IsLawful log b lines inputs × (es ≡ envelopes_of log inputs) × (count ≡ length inputs)))
  are_counted lines es count = (λ h. h, λ h. h)

  pub for_inputs : (es : List EnvelopeData) (count : ℕ) (P : List (List ℕ) → Type 0) → ForInputs log es count P
      ↔ ((inputs : List (List ℕ)) → es ≡ envelopes_of log inputs → count ≡ length inputs → P inputs)
  for_inputs es count P = (λ h. h, λ h. h)
