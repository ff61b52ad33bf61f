-- Texts of the characters of ASCII that print, in which no hidden character can stand.
use Rattle.std.specs.Prelude.{ℕ, ◌<◌, Bool, List}
use Rattle.std.specs.List.{AllByRecursion, list_all}
use Rattle.warg_printable.specs.Characters.{is_from}

-- whether a byte is such a character: none of the control characters, nor a part of a longer one
abbrev pub is_sign : ℕ → Bool
is_sign b = is_from 32 126 b

-- whether each byte of the text is
abbrev pub is_plain : List ℕ → Bool
is_plain text = list_all is_sign text

-- each number is a byte
abbrev pub AreBytes : List ℕ → Type 0
AreBytes bytes = AllByRecursion (λ b. b < 256) bytes
