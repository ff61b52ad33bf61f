-- Texts that list names of keys, a name a line.
use Rattle.std.specs.Prelude.{◌≡◌, ℕ, ◌+◌, ◌==◌, Bool, ◌||◌, if◌then◌else◌, List, [], ◌∷◌, ◌++◌, length, slice_index, Option, Some, None, Result, Ok, Err}
use Rattle.std.specs.List.{after_first, before_first, list_all}
use Rattle.std.specs.Str.Lines.{lines}
use Rattle.warg_crypto.specs.Keys.{public_key_of}
use Rattle.warg_crypto.specs.NamedBytes.{NamedBytes, fingerprint_of}
use Rattle.warg_printable.specs.Printable.{printable}
use Rattle.tool_layout.specs.Digests.{are_digits, behind_sha256}
use Rattle.tool_layout.specs.KeyNames.{KeyName}
use Rattle.tool_layout.specs.declared.error.NameFault.{NameFault}
use Rattle.tool_layout.specs.declared.error.NameFault.TheVariants as fault
use Rattle.tool_layout.specs.declared.error.NamesParseError.{NamesParseError}

-- whether a byte parts words
abbrev pub is_space : ℕ → Bool
is_space b = b == 32

-- whether a line is passed over: it is blank, or begins with `#`
abbrev pub is_passed_over : List ℕ → Bool
is_passed_over line = list_all is_space line || slice_index line 0 == 35

-- the id of the key that a text says, if it says one
abbrev pub id_if_key : {E : Type 0} → Result NamedBytes E → Option (List ℕ)
id_if_key (Ok key) = Some (fingerprint_of key)
id_if_key (Err e) = None

-- the id that a word is, by what stands behind `sha256:`; where no digest can stand, that of the key whose text the word is
abbrev pub id_by_digits : List ℕ → Option (List ℕ) → Option (List ℕ)
id_by_digits word (Some digits) = if are_digits digits then Some word else None
id_by_digits word None = id_if_key (public_key_of word)

-- the id of the key that a word stands for
abbrev pub key_id_of : List ℕ → Option (List ℕ)
key_id_of word = id_by_digits word (behind_sha256 word)

-- what a line says by the id of its key and the text behind the first space: a name, or its fault
abbrev pub names_by : Option (List ℕ) → List ℕ → Result (List KeyName) NameFault
names_by None name = Err fault.NoKey
names_by (Some id) name = if length name == 0 then Err fault.NoName else Ok (record { id = id; name = printable name } ∷ [])

-- what a line says: a name, or none, where it is passed over; or its fault
abbrev pub line_names : List ℕ → Result (List KeyName) NameFault
line_names line =
    if is_passed_over line then Ok [] else names_by (key_id_of (before_first is_space line)) (after_first is_space line)

-- names in front of what is read behind them
abbrev pub in_front : List KeyName → Result (List KeyName) NamesParseError → Result (List KeyName) NamesParseError
in_front names (Ok more) = Ok (names ++ more)
in_front names (Err e) = Err e

-- what the line of a number says, in front of what is read behind it; where it has a fault, that is told
abbrev pub with_line : ℕ → Result (List KeyName) NameFault → Result (List KeyName) NamesParseError → Result (List KeyName) NamesParseError
with_line number (Ok names) rest = in_front names rest
with_line number (Err e) rest = Err (record { line = number; fault = e })

-- the names that lines say, in order, the first line being that of the number; or the first fault
abbrev pub names_from : ℕ → List (List ℕ) → Result (List KeyName) NamesParseError
names_from number [] = Ok []
names_from number (line ∷ more) = with_line number (line_names line) (names_from (number + 1) more)

-- the names that a text lists, or the first fault; lines are counted from 1
abbrev pub names_of : List ℕ → Result (List KeyName) NamesParseError
names_of text = names_from 1 (lines text)

-- the line says names, and new is old with these behind
pub record IsLineAdded (line : List ℕ) (old new : List KeyName) : Type 0 where
  pub names : List KeyName
  pub said : line_names line ≡ Ok names
  pub added : new ≡ old ++ names
