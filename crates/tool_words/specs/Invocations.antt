-- What words ask for: the invocation as a function of them.
use Rattle.std.specs.Prelude.{◌≡◌, ℕ, Bool, true, false, ◌||◌, ◌&&◌, ◌==◌, if◌then◌else◌, List, [], ◌∷◌, codes, drop, length, slice_index_or, Option, Some, None}
use Rattle.std.specs.Option.{is_some}
use Rattle.std.specs.Str.{bytes_eq}
use Rattle.tool_words.specs.Commands.{command_of, commands, named}
use Rattle.tool_words.specs.Parts.{has, Parts, parts_of, value}
use Rattle.tool_words.specs.Requests.{IsRequest, text_in}
use Rattle.tool_words.specs.Rules.{is_taken, limit_in}
use Rattle.tool_words.specs.declared.command.Command.{Command}
use Rattle.tool_words.specs.declared.command.Command.TheVariants as command
use Rattle.tool_words.specs.declared.request.Invocation.{Invocation}
use Rattle.tool_words.specs.declared.request.Said.{Said}
use Rattle.tool_words.specs.declared.request.Said.TheVariants as said

-- a command with the words behind it, parted
pub record Call : Type 0 where
  pub called : Command
  pub parts : Parts

-- a word, empty where there is none
abbrev pub word : ℕ → List (List ℕ) → List ℕ
word i words = slice_index_or words i []

-- how many words stand before those of a command: the program's name and the command's
abbrev pub named_by : Command → ℕ
named_by (command.LogId it) = 3
named_by (command.Prove it) = 3
named_by (command.Verify it) = 3
named_by (command.Compare it) = 3
named_by _ = 2

-- the call of a command and parts, if it takes them
abbrev pub call_if_taken : Command → Option Parts → Option Call
call_if_taken called None = None
call_if_taken called (Some parts) =
    if is_taken called parts.places parts.given then Some (record { called = called; parts = parts }) else None

-- the call of a command with the words behind it
abbrev pub call_by : Option Command → List (List ℕ) → Option Call
call_by None words = None
call_by (Some called) words = call_if_taken called (parts_of called (drop (named_by called) words))

-- what the program's words call, if they are words of the table
abbrev pub invocation_of : List (List ℕ) → Option Call
invocation_of words = call_by (command_of (word 1 words) (word 2 words)) words

-- the invocation says this call
pub record Says (words : List (List ℕ)) (call : Call) (it : Invocation) : Type 0 where
  pub command : it.command.now ≡ word 1 words
  pub request : IsRequest call.called call.parts.places call.parts.given it.request
  pub json : it.json ≡ has (codes "--json") call.parts.given
  pub limit : it.limit ≡ limit_in call.parts.given
  pub verified : text_in it.verified ≡ value (codes "--verified") call.parts.given
  pub toy : it.toy ≡ has (codes "--toy") call.parts.given
  pub full : it.full ≡ has (codes "--full") call.parts.given
  pub names : text_in it.names ≡ value (codes "--names") call.parts.given

-- the invocation says what is called; without one nothing is
abbrev pub IsCalled : Option Call → List (List ℕ) → Option Invocation → Type 0
IsCalled called words None = called ≡ None
IsCalled called words (Some it) = (call : Call) × (called ≡ Some call) × Says words call it

-- whether a word asks for help
abbrev pub is_help : List ℕ → Bool
is_help text = bytes_eq text (codes "--help") || bytes_eq text (codes "-h")

-- whether a word asks for the version
abbrev pub is_version : List ℕ → Bool
is_version text = bytes_eq text (codes "--version") || bytes_eq text (codes "-V")

-- whether a word is the name of a command or of a group
abbrev pub is_name : List ℕ → Bool
is_name text =
    bytes_eq text (codes "log-id")
    || (bytes_eq text (codes "prove") || (bytes_eq text (codes "verify") || is_some (named text commands)))

-- whether words name a command of a group
abbrev pub is_grouped : Option Command → Bool
is_grouped (Some (command.LogId it)) = true
is_grouped (Some (command.Prove it)) = true
is_grouped (Some (command.Verify it)) = true
is_grouped (Some (command.Compare it)) = true
is_grouped _ = false

-- whether one of the words asks for help, before `--`
abbrev pub has_help : List (List ℕ) → Bool
has_help [] = false
has_help (text ∷ more) = if bytes_eq text (codes "--") then false else is_help text || has_help more

-- whether behind `help` stands nothing, or the name of a command, in its group, or of a group
abbrev pub is_topic : List (List ℕ) → Bool
is_topic words =
    length words == 2
    || ((length words == 3 && is_name (word 2 words)) || (length words == 4 && is_grouped (command_of (word 2 words) (word 3 words))))

-- whether words ask for a text alone: help or the version come first, or help stands among those of a command
abbrev pub asks_for_text : List (List ℕ) → Bool
asks_for_text words =
    is_help (word 1 words) || (is_version (word 1 words)
    || ((bytes_eq (word 1 words) (codes "help") && is_topic words) || (is_name (word 1 words) && has_help (drop 2 words))))

-- whether an answer in JSON is asked for, also by wrong words: `--json` is one of them, before `--`
abbrev pub has_json : List (List ℕ) → Bool
has_json [] = false
has_json (text ∷ more) = if bytes_eq text (codes "--") then false else bytes_eq text (codes "--json") || has_json more

-- the same of the program's words
abbrev pub asks_for_json : List (List ℕ) → Bool
asks_for_json words = has_json (drop 1 words)

-- the command that words name, empty where they name none
abbrev pub named_command : List (List ℕ) → List ℕ
named_command words = if is_name (word 1 words) then word 1 words else []

-- what is said of words: the invocation that they are, else a text that they ask for, else what is wrong
abbrev pub IsSaid : List (List ℕ) → Said → Type 0
IsSaid words (said.Invocation it) = IsCalled (invocation_of words) words (Some it)
IsSaid words (said.Help text) = (invocation_of words ≡ None) × (asks_for_text words ≡ true)
IsSaid words (said.Fault text) = (invocation_of words ≡ None) × (asks_for_text words ≡ false)
