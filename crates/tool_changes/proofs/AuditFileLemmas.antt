-- The answer to the log in one file.
use Rattle.std.proofs.Common.{◌≡◌, ℕ, Bool, List, Option, Some, None, Result, Bor}
use Rattle.warg_protocol.specs.Logs.{SignatureRelation}
use Rattle.warg_audit.specs.Printouts.{OutputData}
use Rattle.warg_audit.specs.declared.log_kind.LogKind.{LogKind}
use Rattle.warg_audit.specs.Files.Answers.{Answers, IfOutput, IsUnusable}
use Rattle.warg_audit.specs.Files.Files.{Files}
use Rattle.warg_audit.specs.Files.Unusable.{IsOfLines}
use Rattle.warg_audit.proofs.FilesLemmas.AnswerLemmas.{Answers-to, IfOutput-to}
use Rattle.warg_audit.specs.declared.files.command_output.CommandOutput.{CommandOutput}
use Rattle.warg_audit.specs.declared.files.command_error.CommandError.{CommandError}
use Rattle.tool_changes.specs.Audits.{IsAuditOf, SaysHead}
use Rattle.tool_changes.specs.ManyAudits.{IsByOlder, IsOneAnswer, IsShownBy, no_id, of_log}
use Rattle.tool_words.specs.declared.request.Demands.{Demands}

-- the answer by the lines of the older copy that is named, or by none
module _ (files : Option Files) (older : Option (Bor (List ℕ))) (P : Option (List (List ℕ)) → OutputData → Type 0) (result : Result CommandOutput CommandError) where
  pub by_named : (named : Bor (List ℕ)) → older ≡ Some named → Answers (IsOfLines files named.now (λ lines. P (Some lines))) result
      → Answers (IsByOlder files older P) result
  by_named named e h = rw e h

  pub by_none : older ≡ None → Answers (P None) result → Answers (IsByOlder files older P) result
  by_none e h = rw e h

-- the answer by whether the word for the head says the beginning of an id
module _ (json : Bool) (kind : LogKind) (belongs : SignatureRelation) (files : Option Files) (demands : Demands) (shows_path : Bool) (path : List ℕ) where
  abbrev pub IsBySaid : OutputData → Type 0
  IsBySaid printed = IsByOlder files demands.older (λ older. IsShownBy json files (IsAuditOf kind belongs demands older) path shows_path) printed

  pub said : (result : Result CommandOutput CommandError) → SaysHead demands → Answers IsBySaid result
      → Answers (IsOneAnswer json kind belongs files demands shows_path path) result
  said result says h =
      Answers-to IsBySaid (IsOneAnswer json kind belongs files demands shows_path path) (λ printed it. of_log says it) result h

  pub unsaid : (end : CommandError) → IfOutput (λ printed. (SaysHead demands → ⊥) × IsUnusable printed) end
      → IfOutput (IsOneAnswer json kind belongs files demands shows_path path) end
  unsaid end h =
      IfOutput-to (λ printed. (SaysHead demands → ⊥) × IsUnusable printed) (IsOneAnswer json kind belongs files demands shows_path path)
      (λ printed it. no_id it.0 it.1) end h
