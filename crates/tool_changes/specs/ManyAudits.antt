-- What is answered to a log that is audited, and to many in one call.
use Rattle.std.specs.Prelude.{◌≡◌, ◌≢◌, ◌==◌, ℕ, Bool, true, false, not, ◌||◌, max, List, [], ◌∷◌, ◌++◌, codes, length, filter, Option, Some, None}
use Rattle.std.specs.Borrow.{Bor}
use Rattle.std.specs.List.{list_any}
use Rattle.std.specs.Str.Lines.{lines}
use Rattle.warg_protocol.specs.Logs.{SignatureRelation}
use Rattle.warg_audit.specs.Printouts.{OutputData}
use Rattle.warg_audit.specs.declared.log_kind.LogKind.{LogKind}
use Rattle.warg_audit.specs.Files.Files.{Files, Lacks, Reads}
use Rattle.tool_layout.specs.Members.Objects.{path_object}
use Rattle.tool_changes.specs.LineForms.{line_forms}
use Rattle.warg_audit.specs.Files.ReadErrors.{unread_text}
use Rattle.warg_audit.specs.Files.RecordLines.{record_lines}
use Rattle.warg_audit.specs.Files.Answers.{IsUnusable}
use Rattle.warg_audit.specs.Files.Texts.{line}
use Rattle.warg_printable.specs.Printable.{printable}
use Rattle.warg_audit.specs.Files.Unusable.{IfUsable, IsOfLines}
use Rattle.tool_changes.specs.Audits.{IsAuditOf, SaysHead, first_of, records_alone}
use Rattle.tool_words.specs.declared.request.Demands.{Demands}
use Rattle.warg_audit.specs.declared.files.input.ReadError.{ReadError}
use Rattle.warg_audit.specs.declared.files.input.ReadError.TheVariants.{Missing}

-- the line of one log of many, as text or in JSON: its path, and the first line of its verdict
abbrev pub audit_line : Bool → List ℕ → OutputData → List ℕ
audit_line false path verdict = line (printable (path ++ (codes ": " ++ first_of (lines verdict.text))))
audit_line true path verdict = path_object (line_forms (codes "audit")) (codes "audit") path verdict.status (first_of (lines verdict.text))

-- whether a line of a list names a log: an empty one does not
abbrev pub is_path : List ℕ → Bool
is_path line = not (length line == 0)

-- the line of a list that names no log
abbrev pub empty_list_line : Bool → List ℕ → List ℕ
empty_list_line false list = codes "empty\n"
empty_list_line true list = path_object (line_forms (codes "audit")) (codes "audit") list 1 (codes "empty")

-- the verdict on the log in the file of a path, by its lines, or why it can't be read
pub data IsVerdictOn (files : Option Files) (P : List (List ℕ) → OutputData → Type 0) (path : List ℕ) (verdict : OutputData) : Type 0 where
  unread : (fault : ReadError) → (fault ≡ Missing → Lacks files path) → verdict ≡ unread_text fault → IsVerdictOn files P path verdict
  audited : (bytes : List ℕ) → Reads files path bytes → P (record_lines bytes) verdict → IsVerdictOn files P path verdict

-- the line of a log, behind its path, and the status of the verdict on it
pub record IsPathLine (json : Bool) (files : Option Files) (P : List (List ℕ) → OutputData → Type 0) (path : List ℕ) (printed : OutputData) : Type 0 where
  pub verdict : OutputData
  pub own : IsVerdictOn files P path verdict
  pub is : printed ≡ record { text = audit_line json path verdict; status = verdict.status }

-- ---- one log

-- the answer by the lines of the older copy, if one is named, unless it can't be read
abbrev pub IsByOlder : Option Files → Option (Bor (List ℕ)) → (Option (List (List ℕ)) → OutputData → Type 0) → OutputData → Type 0
IsByOlder files None P printed = P None printed
IsByOlder files (Some path) P printed = IsOfLines files path.now (λ older. P (Some older)) printed

-- the answer to the file of a path as it is, or its first line behind the path
abbrev pub IsShownBy : Bool → Option Files → (List (List ℕ) → OutputData → Type 0) → List ℕ → Bool → OutputData → Type 0
IsShownBy json files P path false printed = IsOfLines files path P printed
IsShownBy json files P path true printed = IsPathLine json files P path printed

-- the answer to the log of a path, of which this is demanded
pub data IsOneAnswer (json : Bool) (kind : LogKind) (belongs : SignatureRelation) (files : Option Files) (demands : Demands) (shows_path : Bool) (path : List ℕ) (printed : OutputData) : Type 0 where
  no_id : (SaysHead demands → ⊥) → IsUnusable printed → IsOneAnswer json kind belongs files demands shows_path path printed
  of_log : SaysHead demands
      → IsByOlder files demands.older (λ older. IsShownBy json files (IsAuditOf kind belongs demands older) path shows_path) printed
      → IsOneAnswer json kind belongs files demands shows_path path printed

-- ---- many logs

module _ (json : Bool) (kind : LogKind) (belongs : SignatureRelation) (files : Option Files) (allows_empty : Bool) where
  -- what is printed with one log more: its line comes last, and the status is the greater one
  pub record IsWith (path : List ℕ) (before after : OutputData) : Type 0 where
    pub verdict : OutputData
    pub own : IsVerdictOn files (IsAuditOf kind belongs (records_alone allows_empty) None) path verdict
    pub is : after ≡ record { text = before.text ++ audit_line json path verdict; status = max before.status verdict.status }

  -- the same of many logs, in order
  abbrev pub IsWithAll : List (List ℕ) → OutputData → OutputData → Type 0
  IsWithAll [] before after = after ≡ before
  IsWithAll (path ∷ more) before after = (next : OutputData) × IsWith path before next × IsWithAll more next after

  -- the same of the logs whose paths these lines of a list are; where none is, that is told, unless there may be none
  pub data IsWithPaths (list : List ℕ) (paths : List (List ℕ)) (before after : OutputData) : Type 0 where
    some : IsWithAll (filter is_path paths) before after → list_any is_path paths || allows_empty ≡ true → IsWithPaths list paths before after
    none : list_any is_path paths || allows_empty ≡ false
        → after ≡ record { text = before.text ++ empty_list_line json list; status = max before.status 1 } → IsWithPaths list paths before after

  -- the same of the logs whose paths a file lists, a line each
  pub record IsWithListed (list : List ℕ) (before after : OutputData) : Type 0 where
    pub bytes : List ℕ
    pub held : Reads files list bytes
    pub all : IsWithPaths list (lines bytes) before after

  -- the same of what a word names: the logs that a file lists, where `@` comes before the file's path, and else a log
  pub data IsWithNamed (word : List ℕ) (before after : OutputData) : Type 0 where
    listed : (list : List ℕ) → word ≡ 64 ∷ list → IsWithListed list before after → IsWithNamed word before after
    itself : ((list : List ℕ) → word ≢ 64 ∷ list) → IsWith word before after → IsWithNamed word before after

  -- the same of the logs that words name, in order
  abbrev pub IsWithWords : List (List ℕ) → OutputData → OutputData → Type 0
  IsWithWords [] before after = after ≡ before
  IsWithWords (word ∷ more) before after = (next : OutputData) × IsWithNamed word before next × IsWithWords more next after

  -- what is answered to words of many logs: the lines of all, and the greatest status, unless a list of paths can't be used
  abbrev pub IsManyAnswer : List (List ℕ) → OutputData → Type 0
  IsManyAnswer words printed = IfUsable (IsWithWords words (record { text = []; status = 0 })) printed
