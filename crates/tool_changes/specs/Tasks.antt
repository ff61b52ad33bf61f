-- What is answered when tasks on logs are done, and what files hold then.
use Rattle.std.specs.Prelude.{◌≡◌, ◌⊎◌, List, ℕ, Option}
use Rattle.warg_crypto.specs.Time.Times.{Time}
use Rattle.warg_protocol.specs.Logs.{SignatureRelation, envelope_of}
use Rattle.warg_protocol.specs.Records.{RecordId}
use Rattle.warg_audit.specs.LogAnswers.{LogDisplay}
use Rattle.warg_audit.specs.LogKinds.{operator_log, package_log}
use Rattle.warg_audit.specs.declared.log_kind.LogKind.{LogKind}
use Rattle.warg_audit.specs.declared.log_kind.LogKind.TheVariants as log_kind
use Rattle.warg_audit.specs.Printouts.{OutputData}
use Rattle.tool_changes.specs.Make.Entries.{LacksOperatorEntry, LacksPackageEntry, SaysOperatorEntry, SaysPackageEntry}
use Rattle.tool_changes.specs.Make.NextRecords.{operator_content, operator_prefix, package_content, package_prefix}
use Rattle.tool_changes.specs.declared.make.error.EntryFault.{EntryFault}
use Rattle.warg_audit.specs.Files.Files.{Files}
use Rattle.tool_changes.specs.Appends.{IsAppended}
use Rattle.tool_changes.specs.ClaimTexts.{IsClaimsAnswer}
use Rattle.tool_changes.specs.MadeRecords.{IsMade}
use Rattle.warg_audit.specs.Files.Unusable.{IsOfLines}
use Rattle.tool_words.specs.declared.task.Task.{Task}
use Rattle.tool_words.specs.declared.task.Task.TheVariants as task

module _ {Meaning Fault View Offence : Type 0} (log : LogDisplay Meaning Fault View Offence) (belongs : SignatureRelation) (old new : Option Files) where
  -- what files hold after a task: what they held, or, after records are added, what goes with an answer to that
  abbrev pub Leaves : Task → Type 0
  Leaves (task.Claims path limit) = new ≡ old
  Leaves (task.Make path draft) = new ≡ old
  Leaves (task.Append path lines limit) = (new ≡ old) ⊎ ((printed : OutputData) × IsAppended log belongs limit old new path.now lines.now printed)

module _ {Meaning Fault View Offence T : Type 0} (Says : List ℕ → T → Type 0) (Lacks : List ℕ → EntryFault → Type 0) (content : Option RecordId → Time → List T → List ℕ) (prefix : List ℕ)
    (log : LogDisplay Meaning Fault View Offence) (belongs : SignatureRelation) (old new : Option Files) where
  -- what is answered when a task is done
  abbrev pub IsTaskAnswer : Task → OutputData → Type 0
  IsTaskAnswer (task.Claims path limit) printed = IsOfLines old path.now (IsClaimsAnswer limit log.kind (envelope_of log.read)) printed
  IsTaskAnswer (task.Make path draft) printed = IsMade Says Lacks content prefix log draft belongs old path.now printed
  IsTaskAnswer (task.Append path lines limit) printed = IsAppended log belongs limit old new path.now lines.now printed

-- the same of a task on a log of a kind
abbrev pub IsDoneAnswer : LogKind → SignatureRelation → Option Files → Option Files → Task → OutputData → Type 0
IsDoneAnswer log_kind.Package belongs old new it printed =
    IsTaskAnswer SaysPackageEntry LacksPackageEntry package_content package_prefix package_log belongs old new it printed
IsDoneAnswer log_kind.Operator belongs old new it printed =
    IsTaskAnswer SaysOperatorEntry LacksOperatorEntry operator_content operator_prefix operator_log belongs old new it printed

abbrev pub DoneLeaves : LogKind → SignatureRelation → Option Files → Option Files → Task → Type 0
DoneLeaves log_kind.Package belongs old new it = Leaves package_log belongs old new it
DoneLeaves log_kind.Operator belongs old new it = Leaves operator_log belongs old new it
