-- The commands, as a table: the name of each, its places and its options.
use Rattle.std.specs.Prelude.{ℕ, Bool, true, false, if◌then◌else◌, List, [], ◌∷◌, codes, Option, Some, None}
use Rattle.std.specs.Option.{option_map}
use Rattle.std.specs.Map.{lookup}
use Rattle.std.specs.Str.{bytes_eq}
use Rattle.tool_words.specs.declared.command.Command.{Command}
use Rattle.tool_words.specs.declared.command.Command.TheVariants as command
use Rattle.tool_words.specs.declared.command.Asking.TheVariants as asking
use Rattle.tool_words.specs.declared.command.Comparing.{Comparing}
use Rattle.tool_words.specs.declared.command.Comparing.TheVariants as comparing
use Rattle.tool_words.specs.declared.command.Doing.TheVariants as doing
use Rattle.tool_words.specs.declared.command.Naming.{Naming}
use Rattle.tool_words.specs.declared.command.Naming.TheVariants as naming
use Rattle.tool_words.specs.declared.command.Proving.{Proving}
use Rattle.tool_words.specs.declared.command.Proving.TheVariants as proving
use Rattle.tool_words.specs.declared.command.Verifying.{Verifying}
use Rattle.tool_words.specs.declared.command.Verifying.TheVariants as verifying

-- the value of the entry whose key is this text
abbrev pub named : {X : Type 0} → List ℕ → List (List ℕ × X) → Option X
named text entries = lookup (λ key. bytes_eq text key) entries

-- the commands by their names
abbrev pub commands : List (List ℕ × Command)
commands =
    (codes "id", command.Id) ∷
    (codes "audit", command.Audit) ∷
    (codes "show", command.Show) ∷
    (codes "state", command.Ask asking.State) ∷
    (codes "resume", command.Ask asking.Resume) ∷
    (codes "head", command.Ask asking.Head) ∷
    (codes "resumed-head", command.Ask asking.ResumedHead) ∷
    (codes "latest", command.Latest) ∷
    (codes "permissions", command.Ask asking.Permissions) ∷
    (codes "chain", command.Ask asking.Chain) ∷
    (codes "compare", command.Ask asking.Compare) ∷
    (codes "claims", command.Do doing.Claims) ∷
    (codes "make", command.Do doing.Make) ∷
    (codes "append", command.Do doing.Append) ∷
    (codes "message", command.Message) ∷
    (codes "leaf", command.Leaf) ∷
    []

-- those of `log-id`
abbrev pub names : List (List ℕ × Naming)
names =
    (codes "package", naming.Package) ∷
    (codes "operator", naming.Operator) ∷
    []

-- those of `prove`
abbrev pub proofs : List (List ℕ × Proving)
proofs =
    (codes "checkpoint", proving.Checkpoint) ∷
    (codes "inclusion", proving.Inclusion) ∷
    (codes "consistency", proving.Consistency) ∷
    (codes "head", proving.Head) ∷
    []

-- those of `verify`
abbrev pub statements : List (List ℕ × Verifying)
statements =
    (codes "checkpoint", verifying.Checkpoint) ∷
    (codes "inclusion", verifying.Inclusion) ∷
    (codes "consistency", verifying.Consistency) ∷
    (codes "head", verifying.Head) ∷
    (codes "absence", verifying.Absence) ∷
    []

-- those of `compare`, beside that of two logs
abbrev pub comparisons : List (List ℕ × Comparing)
comparisons =
    (codes "checkpoints", comparing.Checkpoints) ∷
    (codes "leaves", comparing.Leaves) ∷
    (codes "heads", comparing.Heads) ∷
    (codes "beginnings", comparing.Beginnings) ∷
    []

-- the command of a comparison: that of two logs, where no other is named
abbrev pub comparison : Option Comparing → Command
comparison None = command.Ask asking.Compare
comparison (Some it) = command.Compare it

-- the command that two words name; the second is a part of the name within `log-id`, `prove` and `verify`, and in a comparison of no logs
abbrev pub command_of : List ℕ → List ℕ → Option Command
command_of first second =
    if bytes_eq first (codes "log-id") then option_map command.LogId (named second names)
    else if bytes_eq first (codes "prove") then option_map command.Prove (named second proofs)
    else if bytes_eq first (codes "verify") then option_map command.Verify (named second statements)
    else if bytes_eq first (codes "compare") then Some (comparison (named second comparisons))
    else named first commands

-- what stands at a place of a command; the last two stand last
pub data Form : Type 0 where
  -- the kind of the log
  Kind : Form
  -- a word
  Word : Form
  -- a file's path
  File : Form
  -- a file's path; `-`, which is standard input, where it is left out
  Input : Form
  -- any number of words
  Words : Form
  -- any number of files' paths
  Files : Form

-- the places of a command, in order
abbrev pub forms : Command → List Form
forms command.Id = Kind ∷ Input ∷ []
forms command.Audit = Kind ∷ Input ∷ Files ∷ []
forms command.Show = Kind ∷ Input ∷ []
forms command.Latest = Word ∷ Input ∷ []
forms (command.Ask asking.State) = Kind ∷ Input ∷ []
forms (command.Ask asking.Resume) = Kind ∷ File ∷ Input ∷ []
forms (command.Ask asking.Head) = Kind ∷ Input ∷ []
forms (command.Ask asking.ResumedHead) = Kind ∷ File ∷ Input ∷ []
forms (command.Ask asking.Permissions) = Kind ∷ Word ∷ Input ∷ []
forms (command.Ask asking.Chain) = Kind ∷ Word ∷ Word ∷ Input ∷ []
forms (command.Ask asking.Compare) = Kind ∷ File ∷ File ∷ []
forms (command.Do doing.Claims) = Kind ∷ Input ∷ []
forms (command.Do doing.Make) = Kind ∷ File ∷ Word ∷ Words ∷ []
forms (command.Do doing.Append) = Kind ∷ File ∷ Input ∷ []
forms command.Message = File ∷ Word ∷ []
forms command.Leaf = Word ∷ Word ∷ []
forms (command.LogId naming.Package) = Word ∷ []
forms (command.LogId naming.Operator) = []
forms (command.Prove proving.Checkpoint) = Input ∷ []
forms (command.Prove proving.Inclusion) = Word ∷ Input ∷ []
forms (command.Prove proving.Consistency) = Word ∷ Input ∷ []
forms (command.Prove proving.Head) = Word ∷ Input ∷ []
forms (command.Verify verifying.Checkpoint) = File ∷ Input ∷ []
forms (command.Verify verifying.Inclusion) = File ∷ Word ∷ Word ∷ Word ∷ File ∷ []
forms (command.Verify verifying.Consistency) = File ∷ File ∷ File ∷ []
forms (command.Verify verifying.Head) = File ∷ Word ∷ Word ∷ File ∷ []
forms (command.Verify verifying.Absence) = File ∷ Word ∷ File ∷ []
forms (command.Compare comparing.Checkpoints) = File ∷ File ∷ Input ∷ []
forms (command.Compare comparing.Leaves) = Word ∷ File ∷ Word ∷ Word ∷ File ∷ File ∷ Word ∷ Word ∷ File ∷ []
forms (command.Compare comparing.Heads) = File ∷ Word ∷ Word ∷ File ∷ Word ∷ File ∷ []
forms (command.Compare comparing.Beginnings) = File ∷ File ∷ File ∷ File ∷ File ∷ []

-- whether a place has to be filled
abbrev pub is_needed : Form → Bool
is_needed Kind = true
is_needed Word = true
is_needed File = true
is_needed Input = false
is_needed Words = false
is_needed Files = false

-- whether the first place is that of a kind
abbrev pub has_kind : List Form → Bool
has_kind (Kind ∷ more) = true
has_kind _ = false

-- whether any number of words may stand at the last place
abbrev pub has_more : List Form → Bool
has_more [] = false
has_more (Words ∷ more) = true
has_more (Files ∷ more) = true
has_more (_ ∷ more) = has_more more

-- the options of every command, each with whether a value follows it
abbrev pub of_all : List (List ℕ × Bool)
of_all = (codes "--json", false) ∷ []

-- those of commands that read files
abbrev pub of_files : List (List ℕ × Bool)
of_files = (codes "--limit", true) ∷ of_all

-- those of commands on logs
abbrev pub of_logs : List (List ℕ × Bool)
of_logs = (codes "--verified", true) ∷ (codes "--toy", false) ∷ of_files

-- those of commands that show ids and keys
abbrev pub of_shown : List (List ℕ × Bool)
of_shown = (codes "--full", false) ∷ (codes "--names", true) ∷ of_logs

-- those of `audit`
abbrev pub of_audits : List (List ℕ × Bool)
of_audits =
    (codes "--allow-empty", false) ∷
    (codes "--paths", false) ∷
    (codes "--expect-head", true) ∷
    (codes "--at-least", true) ∷
    (codes "--goes-on-from", true) ∷
    of_logs

-- those of a log that goes on from so many records
abbrev pub of_counted : List (List ℕ × Bool)
of_counted = (codes "--count", true) ∷ of_logs

-- those of `make`
abbrev pub of_making : List (List ℕ × Bool)
of_making = (codes "--key", true) ∷ (codes "--key-text", true) ∷ of_logs

-- the options of a command
abbrev pub options : Command → List (List ℕ × Bool)
options command.Id = of_files
options command.Audit = of_audits
options command.Show = of_shown
options command.Latest = of_logs
options (command.Ask asking.State) = of_logs
options (command.Ask asking.Resume) = of_logs
options (command.Ask asking.Head) = of_logs
options (command.Ask asking.ResumedHead) = of_counted
options (command.Ask asking.Permissions) = of_logs
options (command.Ask asking.Chain) = of_shown
options (command.Ask asking.Compare) = of_logs
options (command.Do doing.Claims) = of_logs
options (command.Do doing.Make) = of_making
options (command.Do doing.Append) = of_logs
options command.Message = of_files
options command.Leaf = of_all
options (command.LogId it) = of_all
options (command.Prove it) = of_files
options (command.Verify verifying.Checkpoint) = of_logs
options (command.Verify verifying.Inclusion) = of_files
options (command.Verify verifying.Consistency) = of_files
options (command.Verify verifying.Head) = of_files
options (command.Verify verifying.Absence) = of_files
options (command.Compare it) = of_files
