-- Characters that a terminal or a reader of lines takes for more than a sign, and how they are printed.
use Rattle.std.specs.Prelude.{ℕ, ◌%◌, ◌==◌, ◌&&◌, ◌||◌, nat_lt, nat_le, Bool, false, List, [], ◌∷◌, ◌++◌}
use Rattle.std.specs.Fmt.{digits}

-- whether the character is one from low to high
abbrev pub is_from : ℕ → ℕ → ℕ → Bool
is_from low high c = nat_le low c && nat_le c high

-- the control characters: C0, DEL and C1
abbrev pub is_control : ℕ → Bool
is_control c = nat_lt c 32 || is_from 127 159 c

-- the separators of lines and paragraphs
abbrev pub is_separator : ℕ → Bool
is_separator c = is_from 0x2028 0x2029 c

-- the marks of direction, and the mark of the byte order
abbrev pub is_mark : ℕ → Bool
is_mark c = c == 0x61C || is_from 0x200E 0x200F c || is_from 0x202A 0x202E c || is_from 0x2066 0x2069 c || c == 0xFEFF

-- the numbers that Unicode gives to no character for good
abbrev pub is_noncharacter : ℕ → Bool
is_noncharacter c = is_from 0xFDD0 0xFDEF c || nat_le 0xFFFE (c % 0x1_0000)

-- whether the character is never printed as it is
unfoldable pub is_hidden : ℕ → Bool
is_hidden c = is_control c || is_separator c || is_mark c || is_noncharacter c

-- the code of `\`
abbrev pub backslash : ℕ
backslash = 92

-- whether a byte is a sign of ASCII, from the space to the tilde
abbrev pub is_sign : ℕ → Bool
is_sign c = is_from 32 126 c

-- `\u{..}`: the number in lower-case hex digits, with no leading zero
abbrev pub number_escape : ℕ → List ℕ
number_escape c = backslash ∷ 117 ∷ 123 ∷ (digits 16 false c ++ 125 ∷ [])
