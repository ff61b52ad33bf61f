-- Words behind a command, parted into places and options.
use Rattle.std.specs.Prelude.{ℕ, Bool, true, false, ◌==◌, ◌||◌, not, nat_lt, if◌then◌else◌, List, [], ◌∷◌, ◌++◌, codes, length, slice_index, slice_index_or, Option, Some, None}
use Rattle.std.specs.List.{before_first, after_first, position_or_len}
use Rattle.std.specs.Option.{is_some}
use Rattle.std.specs.Str.{bytes_eq}
use Rattle.tool_words.specs.Commands.{named, options}
use Rattle.tool_words.specs.declared.command.Command.{Command}

-- the words that stand at places, the options with their values, the option whose value is awaited, and whether options have ended
pub record Parts : Type 0 where
  pub places : List (List ℕ)
  pub given : List (List ℕ × List ℕ)
  pub awaited : Option (List ℕ)
  pub ended : Bool

-- no words yet
abbrev pub no_parts : Parts
no_parts = record { places = []; given = []; awaited = None; ended = false }

-- the word at a place, `-` where there is none
abbrev pub place : ℕ → List (List ℕ) → List ℕ
place i places = slice_index_or places i (codes "-")

-- the value of an option, if it is given; that of a flag is empty
abbrev pub value : List ℕ → List (List ℕ × List ℕ) → Option (List ℕ)
value name given = named name given

-- whether an option is given
abbrev pub has : List ℕ → List (List ℕ × List ℕ) → Bool
has name given = is_some (value name given)

-- whether a word stands at a place: it does not begin with `-`, or is that alone
abbrev pub is_place : List ℕ → Bool
is_place word = not (slice_index word 0 == 45) || length word == 1

-- whether a byte is `=`
abbrev pub is_equals : ℕ → Bool
is_equals b = b == 61

-- with one place more
abbrev pub with_place : List ℕ → Parts → Parts
with_place word parts = record { places = parts.places ++ word ∷ []; given = parts.given; awaited = parts.awaited; ended = parts.ended }

-- with one option more, which may not be given twice
abbrev pub with_option : List ℕ → List ℕ → Parts → Option Parts
with_option name text parts =
    if has name parts.given then None
    else Some (record { places = parts.places; given = parts.given ++ (name, text) ∷ []; awaited = None; ended = parts.ended })

-- with an option whose word has no value: a flag, or one that awaits its value, or none that there is
abbrev pub with_bare : Option Bool → List ℕ → Parts → Option Parts
with_bare None name parts = None
with_bare (Some false) name parts = with_option name [] parts
with_bare (Some true) name parts = Some (record { places = parts.places; given = parts.given; awaited = Some name; ended = parts.ended })

-- with an option whose word has its value behind `=`, if it takes one
abbrev pub with_joined : Option Bool → List ℕ → List ℕ → Parts → Option Parts
with_joined None name text parts = None
with_joined (Some false) name text parts = None
with_joined (Some true) name text parts = with_option name text parts

-- with the word of an option
abbrev pub with_dashed : Command → List ℕ → Parts → Option Parts
with_dashed command word parts =
    if position_or_len is_equals word == length word then with_bare (named word (options command)) word parts
    else with_joined (named (before_first is_equals word) (options command)) (before_first is_equals word) (after_first is_equals word) parts

-- with a word that ends the options, or is that of one
abbrev pub with_mark : Command → List ℕ → Parts → Option Parts
with_mark command word parts =
    if bytes_eq word (codes "--") then Some (record { places = parts.places; given = parts.given; awaited = parts.awaited; ended = true })
    else with_dashed command word parts

-- with a word, where an option may await it as its value
abbrev pub with_awaited : Command → Option (List ℕ) → List ℕ → Parts → Option Parts
with_awaited command None word parts = if is_place word then Some (with_place word parts) else with_mark command word parts
with_awaited command (Some name) word parts = if is_place word then with_option name word parts else None

-- with one word more
abbrev pub with_word : Command → List ℕ → Parts → Option Parts
with_word command word parts = if parts.ended then Some (with_place word parts) else with_awaited command parts.awaited word parts

-- what further words make of parts, if there are such
abbrev pub and_words : Command → List (List ℕ) → Option Parts → Option Parts
and_words command words None = None
and_words command [] (Some parts) = Some parts
and_words command (word ∷ more) (Some parts) = and_words command more (with_word command word parts)

-- the parts, where no option is left without its value
abbrev pub whole : Option Parts → Option Parts
whole None = None
whole (Some parts) = if is_some parts.awaited then None else Some parts

-- the parts of the words behind a command
abbrev pub parts_of : Command → List (List ℕ) → Option Parts
parts_of command words = whole (and_words command words (Some no_parts))
