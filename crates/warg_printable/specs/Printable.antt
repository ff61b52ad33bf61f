-- A text as it is printed, so that it can't be taken for another line or for a word to the terminal.
use Rattle.std.specs.Prelude.{◌==◌, ◌||◌, ◌&&◌, ℕ, Bool, false, true, if◌then◌else◌, List, [], ◌∷◌}
use Rattle.std.specs.List.{flat_map}
use Rattle.std.specs.Str.{NoCharPasses, chars, encode_utf8_all}
use Rattle.warg_printable.specs.Characters.{backslash, is_hidden, is_sign, number_escape}

-- whether a character is written by its number: a hidden one, and a space if that is wanted
abbrev pub is_numbered : Bool → ℕ → Bool
is_numbered spaces c = is_hidden c || (spaces && c == 32)

-- the characters that stand for one
abbrev pub shown_char : Bool → ℕ → List ℕ
shown_char spaces c =
    if is_numbered spaces c then number_escape c
    else if c == backslash then backslash ∷ backslash ∷ []
    else c ∷ []

-- the text with `\u{..}` for each such character, and `\\` for each backslash
unfoldable pub escaped : Bool → List ℕ → List ℕ
escaped spaces text = encode_utf8_all (flat_map (shown_char spaces) (chars text))

-- the text as it is printed
abbrev pub printable : List ℕ → List ℕ
printable text = escaped false text

-- the text as a word: as it is printed, and with no space in it
abbrev pub printable_word : List ℕ → List ℕ
printable_word text = escaped true text

-- no hidden character stands in the text: no control character, so no line feed
abbrev pub IsPrintable : List ℕ → Type 0
IsPrintable text = NoCharPasses is_hidden text

-- whether a character is printed otherwise than as itself
abbrev pub is_escaped : Bool → ℕ → Bool
is_escaped spaces c = is_numbered spaces c || c == backslash

-- whether a byte is a sign of ASCII that is printed as it is
abbrev pub is_plain : ℕ → Bool
is_plain c = is_sign c && (if c == backslash then false else true)
