-- What is demanded of a log, and whether its words say it.
use Rattle.std.proofs.Common.{◌≡◌, ℕ, Bool, true, false, List, sym, ap, ◌∙◌, Option, Some, None, Result}
use Rattle.std.proofs.lemmas.Bool.{false≢true}
use Rattle.warg_protocol.specs.Records.{RecordId}
use Rattle.warg_audit.specs.Printouts.{OutputData}
use Rattle.warg_audit.specs.Files.Answers.{Answers, IfOutput, IsUnusable}
use Rattle.warg_audit.specs.Files.Texts.{no}
use Rattle.warg_audit.proofs.FilesLemmas.AnswerLemmas.{IfOutput-to}
use Rattle.warg_audit.specs.declared.files.command_output.CommandOutput.{CommandOutput}
use Rattle.warg_audit.specs.declared.files.command_error.CommandError.{CommandError}
use Rattle.tool_changes.specs.Audits.{line_or, unmet}
use Rattle.tool_words.specs.declared.request.Demands.{Demands}

-- the error of a command for a word that does not say what it should
pub not_said : (said : Bool) (end : CommandError) → false ≡ said → IfOutput IsUnusable end
    → IfOutput (λ printed. (said ≡ true → ⊥) × IsUnusable printed) end
not_said said end e h =
    IfOutput-to IsUnusable (λ printed. (said ≡ true → ⊥) × IsUnusable printed)
    (λ printed is. ((λ f. false≢true (e ∙ f)), is)) end h

-- the answer by an equal line
pub line_or_same : (verdict : OutputData) (said found : Option (List ℕ)) (result : Result CommandOutput CommandError) → said ≡ found
    → Answers (λ printed. printed ≡ line_or verdict said) result → Answers (λ printed. printed ≡ line_or verdict found) result
line_or_same verdict said found result e h = rw e at h

-- the line of a demand that is not met, or the verdict
pub line_of_unmet : (verdict : OutputData) (demands alone : Demands) (count : ℕ) (head : Option RecordId) (said : Option (List ℕ)) (text : List ℕ)
    (printed : OutputData) → said ≡ unmet demands count head → demands ≡ alone → said ≡ Some text → printed ≡ no text
    → printed ≡ line_or verdict (unmet alone count head)
line_of_unmet verdict demands alone count head said text printed e same found is =
    is ∙ ap (line_or verdict) (sym found ∙ e ∙ ap (λ (d : Demands). unmet d count head) same)

pub verdict_of_met : (demands alone : Demands) (count : ℕ) (head : Option RecordId) (said : Option (List ℕ)) (text start : List ℕ) (status : ℕ)
    (printed : OutputData) → said ≡ unmet demands count head → demands ≡ alone → said ≡ None → text ≡ start
    → printed ≡ record { text = text; status = status }
    → printed ≡ line_or (record { text = start; status = status }) (unmet alone count head)
verdict_of_met demands alone count head said text start status printed e same found begins is =
    let verdict : OutputData = record { text = start; status = status } in
    let as_begun : List ℕ → OutputData = λ t. record { text = t; status = status } in
    is ∙ ap as_begun begins ∙ ap (line_or verdict) (sym found ∙ e ∙ ap (λ (d : Demands). unmet d count head) same)
