-- What is answered to a log of which something is demanded.
use Rattle.std.proofs.Common.{◌≡◌, ℕ, List, length, refl, ap, ◌∙◌, Option, Some, None, Result}
use Rattle.warg_protocol.specs.Logs.{SignatureRelation}
use Rattle.warg_audit.specs.LogAnswers.{LogDisplay, accepted_line, log_shown, view_of}
use Rattle.warg_audit.specs.Printouts.{OutputData}
use Rattle.warg_audit.specs.Files.Answers.{Answers}
use Rattle.warg_audit.proofs.FilesLemmas.AnswerLemmas.{Answers-to}
use Rattle.warg_audit.specs.declared.files.command_output.CommandOutput.{CommandOutput}
use Rattle.warg_audit.specs.declared.files.command_error.CommandError.{CommandError}
use Rattle.tool_answers.specs.Verdicts.{IsLawful, lawful}
use Rattle.tool_changes.specs.Audits.{IsAudited, IsDemanded, line_or, met, not_met, unmet, verdict_on}
use Rattle.tool_words.specs.declared.request.Demands.{Demands}

module _ {Meaning Fault View Offence : Type 0} (log : LogDisplay Meaning Fault View Offence) (belongs : SignatureRelation) where
  -- the line of the first demand that is not met, or the verdict
  met_or_not : (demands : Demands) (inputs : List (List ℕ)) (found : Option (List ℕ)) (printed : OutputData)
      → unmet demands (length inputs) (log.kind.head (view_of log inputs)) ≡ found
      → printed ≡ line_or (verdict_on log inputs) found → IsDemanded log belongs demands None inputs printed
  met_or_not demands inputs None printed e is = met e is
  met_or_not demands inputs (Some text) printed e is = not_met text e is

  -- the same of a state that stands for the inputs
  pub demanded_answers : (demands : Demands) (ls inputs : List (List ℕ)) → IsLawful log belongs ls inputs → (view : View)
      → view ≡ view_of log inputs → (count : ℕ) → count ≡ length inputs → (told : List ℕ) → told ≡ log.shown view
      → (result : Result CommandOutput CommandError)
      → Answers (λ printed. printed ≡ line_or (accepted_line count (log.kind.head view) told) (unmet demands count (log.kind.head view))) result
      → Answers (IsAudited log belongs demands None ls) result
  demanded_answers demands ls inputs it view stands count counted told same result h =
      Answers-to (λ printed. printed ≡ line_or (accepted_line count (log.kind.head view) told) (unmet demands count (log.kind.head view)))
      (IsAudited log belongs demands None ls)
      (λ printed is. lawful inputs it (met_or_not demands inputs _ printed refl
      (is ∙ ap (λ (t : List ℕ). line_or (accepted_line count (log.kind.head view) t) (unmet demands count (log.kind.head view))) same
      ∙ ap (λ (n : ℕ). line_or (log_shown log n view) (unmet demands n (log.kind.head view))) counted
      ∙ ap (λ (v : View). line_or (log_shown log (length inputs) v) (unmet demands (length inputs) (log.kind.head v))) stands)))
      result h
