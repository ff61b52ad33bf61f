-- What is answered to a question on logs, by what the files that it names hold.
use Rattle.std.specs.Prelude.{◌≡◌, ℕ, Bool, List, Option, Result}
use Rattle.warg_protocol.specs.Json.{JsonError, JsonTextError}
use Rattle.warg_protocol.specs.Logs.{Effects, SignatureRelation}
use Rattle.warg_log.specs.declared.head.Head.{Head}
use Rattle.warg_audit.specs.LogAnswers.{LogDisplay}
use Rattle.warg_audit.specs.Printouts.{OutputData}
use Rattle.warg_audit.specs.Files.Files.{Files}
use Rattle.tool_questions.specs.HeadTexts.{IsHeadText, IsResumedHead}
use Rattle.tool_questions.specs.Questions.{IsStateText, IsPermissionsText, IsChainText, IsCompared}
use Rattle.tool_questions.specs.Resumption.{IsNextText, IsResumed}
use Rattle.warg_audit.specs.Files.Unusable.{IsOfFile, IsOfLines}
use Rattle.tool_answers.specs.ShownWords.{RecordWords}
use Rattle.tool_answers.specs.Texts.{saved_text}
use Rattle.tool_answers.specs.Verdicts.{IsPrintedOf}
use Rattle.tool_answers.specs.Words.{IsByWord}
use Rattle.tool_words.specs.declared.request.LogQuery.{LogQuery}
use Rattle.tool_words.specs.declared.request.LogQuery.TheVariants as question

-- a kind of log that questions are asked of: how it is shown, and what is said of its states, its keys and its last record
pub record Askable (Meaning Fault View Offence S P : Type 0) : Type 0 where
  pub shown : LogDisplay Meaning Fault View Offence
  pub view : S → View
  pub json : S → Result (List ℕ) JsonError
  pub reads : List ℕ → Result S JsonTextError
  pub has_key : S → List ℕ → Bool
  pub knows : S → List ℕ → Bool
  pub held : View → List ℕ → P → Bool
  pub order : List P
  pub text_of : P → List ℕ
  pub effects : Effects P
  pub last : S → Option Head

-- Says: content bytes say a record of which this is shown
module _ {Meaning Fault View Offence S P : Type 0} (kind : Askable Meaning Fault View Offence S P) (Says : List ℕ → RecordWords → Type 0) (belongs : SignatureRelation)
    (files : Option Files) where
  -- what is answered to a question, by what files hold
  abbrev pub IsQuestionAnswer : LogQuery → OutputData → Type 0
  IsQuestionAnswer (question.State log limit) printed =
      IsOfLines files log.now (IsPrintedOf kind.shown belongs (IsStateText kind.shown kind.view (saved_text limit kind.json))) printed
  IsQuestionAnswer (question.Resume state log limit) printed =
      IsOfFile files state.now (λ saved. IsOfLines files log.now
      (IsResumed kind.shown belongs kind.view (IsNextText (saved_text limit kind.json)) kind.reads saved)) printed
  IsQuestionAnswer (question.Head log) printed =
      IsOfLines files log.now (IsPrintedOf kind.shown belongs (IsHeadText kind.shown kind.view kind.last)) printed
  IsQuestionAnswer (question.ResumedHead state log count) printed =
      IsOfFile files state.now (λ saved. IsOfLines files log.now
      (IsResumed kind.shown belongs kind.view (IsResumedHead kind.last count) kind.reads saved)) printed
  IsQuestionAnswer (question.Permissions key_id log) printed =
      IsOfLines files log.now (IsPrintedOf kind.shown belongs
      (IsPermissionsText kind.shown kind.view kind.has_key kind.knows kind.held kind.order kind.text_of key_id.now)) printed
  IsQuestionAnswer (question.Chain key_id permission log) printed =
      IsByWord (λ it. kind.text_of it ≡ permission.now)
      (λ it. IsOfLines files log.now (IsPrintedOf kind.shown belongs (IsChainText kind.shown Says kind.view kind.has_key kind.effects key_id.now it))) printed
  IsQuestionAnswer (question.Compare old new) printed =
      IsOfLines files old.now (λ here. IsOfLines files new.now (IsCompared kind.shown Says belongs here)) printed
