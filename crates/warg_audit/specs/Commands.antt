-- What the program's words ask for.
use Rattle.std.specs.Prelude.{ℕ, List, [], ◌∷◌, if◌then◌else◌, codes, Option, Some, None}
use Rattle.std.specs.Str.{bytes_eq}
use Rattle.warg_audit.specs.declared.log_kind.LogKind.{LogKind}
use Rattle.warg_audit.specs.declared.log_kind.LogKind.TheVariants.{Package, Operator}
use Rattle.warg_audit.specs.declared.command.Command.{Command}
use Rattle.warg_audit.specs.declared.command.Command.TheVariants.{Id, Audit}
use Rattle.warg_audit.specs.declared.information.Information.{Information}
use Rattle.warg_audit.specs.declared.information.Information.TheVariants.{Help, Version}

-- the type of log that a word names, if it names one
abbrev pub log_kind_of : List ℕ → Option LogKind
log_kind_of word =
    if bytes_eq word (codes "package") then Some Package
    else if bytes_eq word (codes "operator") then Some Operator
    else None

-- the command that asks for the id of one record, if a type of log was named
abbrev pub id_of : Option LogKind → Option Command
id_of None = None
id_of (Some log_kind) = Some (Id log_kind)

-- the command that asks for the verdict on a log, if its type was named
abbrev pub audit_of : Option LogKind → Option Command
audit_of None = None
audit_of (Some log_kind) = Some (Audit log_kind)

-- `package`, `operator`, `id package` and `id operator`
abbrev pub command_of : List (List ℕ) → Option Command
command_of [] = None
command_of (word ∷ []) = audit_of (log_kind_of word)
command_of (first ∷ second ∷ []) = if bytes_eq first (codes "id") then id_of (log_kind_of second) else None
command_of (first ∷ second ∷ third ∷ more) = None

-- what a word asks about the program itself, if it asks about it
abbrev pub information_named : List ℕ → Option Information
information_named word =
    if bytes_eq word (codes "--help") then Some Help
    else if bytes_eq word (codes "--version") then Some Version
    else None

-- `--help` and `--version`, each alone
abbrev pub information_of : List (List ℕ) → Option Information
information_of [] = None
information_of (word ∷ []) = information_named word
information_of (first ∷ second ∷ more) = None
