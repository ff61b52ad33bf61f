-- What the places and the options of a command have to be.
use Rattle.std.specs.Prelude.{ℕ, ◌+◌, ◌^◌, Bool, true, false, ◌&&◌, ◌||◌, ◌==◌, not, nat_lt, nat_le, if◌then◌else◌, List, [], ◌∷◌, codes, length, count_by, drop, slice_index, unwrap_or, Option, Some, None}
use Rattle.std.specs.List.{starts_with}
use Rattle.std.specs.Option.{is_some}
use Rattle.std.specs.Str.{bytes_eq}
use Rattle.warg_crypto.specs.Time.TimeText.{number_of}
use Rattle.warg_audit.specs.declared.log_kind.LogKind.{LogKind}
use Rattle.warg_audit.specs.declared.log_kind.LogKind.TheVariants as log_kind
use Rattle.tool_words.specs.Commands.{Form, File, Files, forms, has_kind, has_more, Input, is_needed, Kind, Word, Words}
use Rattle.tool_words.specs.Parts.{has, Parts, place, value}
use Rattle.tool_words.specs.declared.command.Command.{Command}
use Rattle.tool_words.specs.declared.command.Command.TheVariants as command
use Rattle.tool_words.specs.declared.command.Doing.TheVariants as doing
use Rattle.tool_words.specs.declared.checkpoint.Schemes.{Schemes}
use Rattle.tool_words.specs.declared.checkpoint.Schemes.TheVariants as schemes

-- whether so many words fill the places
abbrev pub fills : List Form → ℕ → Bool
fills places count = nat_le (count_by is_needed places) count && (has_more places || nat_le count (length places))

-- whether a word is a kind of log
abbrev pub is_kind : List ℕ → Bool
is_kind word = bytes_eq word (codes "package") || bytes_eq word (codes "operator")

-- the kind that a word says
abbrev pub kind_of : List ℕ → LogKind
kind_of word = if bytes_eq word (codes "operator") then log_kind.Operator else log_kind.Package

-- whether a path is standard input
abbrev pub is_stdin : List ℕ → Bool
is_stdin path = bytes_eq path (codes "-")

-- whether a place is that of a file that is read
abbrev pub is_read : Form → Bool
is_read Kind = false
is_read Word = false
is_read File = true
is_read Input = true
is_read Words = false
is_read Files = false

-- at which places such a file stands, from the i-th on; those where any number of files may stand are left out
abbrev pub read_places : ℕ → List Form → List ℕ
read_places i [] = []
read_places i (form ∷ more) = if is_read form then i ∷ read_places (i + 1) more else read_places (i + 1) more

-- how many of these places are standard input
abbrev pub stdin_places : Command → List (List ℕ) → ℕ
stdin_places command places = count_by (λ i. is_stdin (place i places)) (read_places 0 (forms command))

-- the files that stand where any number of them may, if the forms are those of the i-th place and of the next ones
abbrev pub more_files : ℕ → List Form → List (List ℕ) → List (List ℕ)
more_files i [] places = []
more_files i (Files ∷ more) places = drop i places
more_files i (_ ∷ more) places = more_files (i + 1) more places

-- how many of those are standard input
abbrev pub stdin_files : Command → List (List ℕ) → ℕ
stdin_files command places = count_by is_stdin (more_files 0 (forms command) places)

-- whether a value is that of a file that is standard input
abbrev pub is_some_stdin : Option (List ℕ) → Bool
is_some_stdin None = false
is_some_stdin (Some path) = is_stdin path

-- one if so, else none
abbrev pub one_if : Bool → ℕ
one_if true = 1
one_if false = 0

-- how many of the options read standard input
abbrev pub stdin_options : List (List ℕ × List ℕ) → ℕ
stdin_options given =
    one_if (is_some_stdin (value (codes "--verified") given)) + one_if (is_some_stdin (value (codes "--names") given))
    + one_if (is_some_stdin (value (codes "--goes-on-from") given))

-- whether standard input is read once at most
abbrev pub reads_once : ℕ → ℕ → ℕ → Bool
reads_once places files options = nat_le (places + files + options) 1

-- the number below 2^64 that decimal digits say; no plus may stand first
abbrev pub number : List ℕ → Option ℕ
number digits = if slice_index digits 0 == 43 then None else number_of (2 ^ 64) digits

-- the number that an option says, if it is given and says one
abbrev pub number_in : Option (List ℕ) → Option ℕ
number_in None = None
number_in (Some digits) = number digits

-- how many bytes a file may have: 16 MiB where no other number is given
abbrev pub limit_in : List (List ℕ × List ℕ) → ℕ
limit_in given = unwrap_or (number_in (value (codes "--limit") given)) 16_777_216

-- of which schemes keys may be whose signatures are taken: of any where a file lists what was verified
abbrev pub schemes_in : List (List ℕ × List ℕ) → Schemes
schemes_in given =
    if has (codes "--verified") given then schemes.Any else if has (codes "--toy") given then schemes.WithToy else schemes.Known

-- whether an option that is given says a number
abbrev pub is_number : Option (List ℕ) → Bool
is_number None = true
is_number (Some digits) = is_some (number digits)

-- whether the words behind `audit` name one log, and no file of paths
abbrev pub is_one_log : List (List ℕ) → Bool
is_one_log places = nat_le (length places) 2 && not (slice_index (place 1 places) 0 == 64)

-- whether something is demanded of one log
abbrev pub has_demand : List (List ℕ × List ℕ) → Bool
has_demand given = has (codes "--expect-head") given || (has (codes "--at-least") given || has (codes "--goes-on-from") given)

-- who signs: the toy key of a name, or a key by its text
pub data SignerData : Type 0 where
  toy : List ℕ → SignerData
  key_text : List ℕ → SignerData

-- the signer that the values of `--key` and `--key-text` say: one of them has to be given
abbrev pub signer_of : Option (List ℕ) → Option (List ℕ) → Option SignerData
signer_of None None = None
signer_of None (Some text) = Some (key_text text)
signer_of (Some key) None = if starts_with ◌==◌ key (codes "toy:") then Some (toy (drop 4 key)) else None
signer_of (Some key) (Some text) = None

-- the signer that is given
abbrev pub signer_in : List (List ℕ × List ℕ) → Option SignerData
signer_in given = signer_of (value (codes "--key") given) (value (codes "--key-text") given)

-- whether a record is to be made
abbrev pub is_make : Command → Bool
is_make (command.Do doing.Make) = true
is_make _ = false

-- whether a command takes these places
abbrev pub takes_places : Command → List (List ℕ) → Bool
takes_places command places = fills (forms command) (length places) && (not (has_kind (forms command)) || is_kind (place 0 places))

-- whether a command takes these options, with one verifier, numbers where they are wanted, and who signs
abbrev pub takes_options : Command → List (List ℕ × List ℕ) → Bool
takes_options command given =
    not (has (codes "--toy") given && has (codes "--verified") given)
    && (is_number (value (codes "--at-least") given)
    && (is_number (value (codes "--limit") given)
    && (is_number (value (codes "--count") given) && (not (is_make command) || is_some (signer_in given)))))

-- whether a command takes these places with these options
abbrev pub is_taken : Command → List (List ℕ) → List (List ℕ × List ℕ) → Bool
is_taken command places given =
    takes_places command places
    && (takes_options command given
    && (reads_once (stdin_places command places) (stdin_files command places) (stdin_options given) && (is_one_log places || not (has_demand given))))
