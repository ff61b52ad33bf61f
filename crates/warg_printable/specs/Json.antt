-- JSON without hidden characters, so that a line of it can't be taken for another line or for a word to the terminal.
use Rattle.std.specs.Prelude.{ℕ, ◌+◌, ◌-◌, ◌/◌, ◌%◌, nat_lt, if◌then◌else◌, List, [], ◌∷◌, ◌++◌}
use Rattle.std.specs.Char.{digit_char}
use Rattle.std.specs.List.{flat_map}
use Rattle.std.specs.Str.{chars, encode_utf8_all}
use Rattle.warg_printable.specs.Characters.{backslash, is_hidden}

-- `\uXXXX`: the last four lower-case hex digits of a number
abbrev pub unit_escape : ℕ → List ℕ
unit_escape n =
    backslash ∷ 117 ∷ digit_char (n / 0x1000 % 16) ∷ digit_char (n / 0x100 % 16) ∷ digit_char (n / 0x10 % 16) ∷ digit_char (n % 16) ∷ []

-- a character as a string of JSON may have it: its one unit of UTF-16, or the two of its surrogate pair (RFC 8259, section 7)
abbrev pub json_escape : ℕ → List ℕ
json_escape c =
    if nat_lt c 0x1_0000 then unit_escape c
    else unit_escape (0xD800 + (c - 0x1_0000) / 0x400) ++ unit_escape (0xDC00 + (c - 0x1_0000) % 0x400)

-- the characters that stand for one
abbrev pub json_char : ℕ → List ℕ
json_char c = if is_hidden c then json_escape c else c ∷ []

-- the text with an escape for each hidden character. Of JSON, where such a character stands in strings alone, it says the same
unfoldable pub json_printable : List ℕ → List ℕ
json_printable text = encode_utf8_all (flat_map json_char (chars text))
