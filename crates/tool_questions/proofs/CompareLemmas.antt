-- How logs compare, and what is answered for want of a side.
use Rattle.std.proofs.Common.{◌≡◌, ◌∙◌, ◌++◌, ℕ, List, ap, sym, append_assoc, codes, Option, Result}
use Rattle.warg_protocol.specs.Logs.{EnvelopeData, Kind, KindLaws, SignatureRelation, IsAccepted, IsComparison, contents, last_id}
use Rattle.warg_protocol.specs.Records.{RecordId}
use Rattle.warg_replay.proofs.LogLaws.{head-last}
use Rattle.warg_replay.specs.declared.audited_log.comparison.Comparison.{Comparison}
use Rattle.warg_audit.specs.LogAnswers.{LogDisplay}
use Rattle.warg_audit.specs.Printouts.{OutputData}
use Rattle.warg_audit.proofs.FilesLemmas.AnswerLemmas.{IfOutput-to, Answers-to}
use Rattle.warg_audit.specs.Files.Answers.{Answers, IfOutput}
use Rattle.tool_questions.specs.Questions.{IsCompared, of_old, by_new, IsComparedWith, of_new, both, IsComparisonOf}
use Rattle.warg_audit.specs.Files.Texts.{side_text}
use Rattle.tool_answers.specs.ShownWords.{RecordWords}
use Rattle.tool_answers.specs.Texts.{IsComparisonPrinted}
use Rattle.tool_answers.specs.Verdicts.{IsLawful, IsNegative, envelopes_of}
use Rattle.warg_audit.specs.declared.files.command_output.CommandOutput.{CommandOutput}
use Rattle.warg_audit.specs.declared.files.command_error.CommandError.{CommandError}

-- a text of three parts, which were put together one by one
pub three_parts : (first second third begun so_far whole added last : List ℕ) → begun ≡ first → so_far ≡ begun ++ added → added ≡ second
    → whole ≡ so_far ++ last → last ≡ third → whole ≡ first ++ (second ++ third)
three_parts first second third begun so_far whole added last is_first more is_second ended is_third =
    ended ∙ ap (λ text. so_far ++ text) is_third
    ∙ ap (λ text. text ++ third) (more ∙ ap (λ text. begun ++ text) is_second ∙ ap (λ text. text ++ second) is_first)
    ∙ append_assoc first second third

-- ---- logs as their envelopes

module _ (Says : List ℕ → RecordWords → Type 0) {View Offence : Type 0} (kind : Kind View Offence) where
  -- of lawful envelopes, by the ids of the last of them
  pub told_of_kept : (laws : KindLaws kind) (b d : SignatureRelation) (old new : List EnvelopeData) (head : Option RecordId) (comparison : Comparison) (printed : OutputData)
      → IsAccepted kind b old → IsAccepted kind d new → head ≡ last_id kind old
      → IsComparison (last_id kind old) (last_id kind new) (contents old) (contents new) comparison
      → IsComparisonPrinted Says kind.id head old new comparison printed → IsComparisonOf Says kind old new printed
  told_of_kept laws b d old new head comparison printed before after last compares is =
      record {
        comparison = comparison;
        compares = rw (head-last kind laws b old before, head-last kind laws d new after) compares;
        is = rw (head-last kind laws b old before ∙ sym last) is;
      }

  pub told_of_same : (old new here there : List EnvelopeData) (printed : OutputData) → old ≡ here → new ≡ there
      → IsComparisonOf Says kind old new printed → IsComparisonOf Says kind here there printed
  told_of_same old new here there printed e f h = rw (e, f) at h

module _ {Meaning Fault View Offence : Type 0} (log : LogDisplay Meaning Fault View Offence) (Says : List ℕ → RecordWords → Type 0) (belongs : SignatureRelation) where
  pub new_is_compared : (here new : List (List ℕ)) (end : CommandError)
      → IfOutput (λ printed. (it : OutputData) × (IsNegative log belongs new it × (printed ≡ side_text (codes "new") it))) end
      → IfOutput (IsComparedWith log Says belongs here new) end
  new_is_compared here new end h =
      IfOutput-to (λ printed. (it : OutputData) × (IsNegative log belongs new it × (printed ≡ side_text (codes "new") it)))
      (IsComparedWith log Says belongs here new) (λ printed told. of_new told.0 told.1.0 told.1.1) end h

  pub both_are_compared : (here there new : List (List ℕ)) (old_es new_es : List EnvelopeData) (printed : OutputData)
      → old_es ≡ envelopes_of log here → new_es ≡ envelopes_of log there → IsLawful log belongs new there
      → IsComparisonOf Says log.kind old_es new_es printed → IsComparedWith log Says belongs here new printed
  both_are_compared here there new old_es new_es printed e f lawful h =
      both there lawful (told_of_same Says log.kind old_es new_es (envelopes_of log here) (envelopes_of log there) printed e f h)

  pub old_is_compared : (old new : List (List ℕ)) (end : CommandError)
      → IfOutput (λ printed. (it : OutputData) × (IsNegative log belongs old it × (printed ≡ side_text (codes "old") it))) end
      → IfOutput (IsCompared log Says belongs old new) end
  old_is_compared old new end h =
      IfOutput-to (λ printed. (it : OutputData) × (IsNegative log belongs old it × (printed ≡ side_text (codes "old") it)))
      (IsCompared log Says belongs old new) (λ printed told. of_old told.0 told.1.0 told.1.1) end h

  pub is_compared : (old new here : List (List ℕ)) (result : Result CommandOutput CommandError) → IsLawful log belongs old here
      → Answers (IsComparedWith log Says belongs here new) result → Answers (IsCompared log Says belongs old new) result
  is_compared old new here result lawful h =
      Answers-to (IsComparedWith log Says belongs here new) (IsCompared log Says belongs old new)
      (λ printed told. by_new here lawful told) result h
