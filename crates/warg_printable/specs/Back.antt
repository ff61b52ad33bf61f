-- A printed text, as it is read back.
use Rattle.std.specs.Prelude.{◌≡◌, ◌==◌, ◌+◌, ◌*◌, ◌&&◌, ℕ, nat_lt, Bool, true, false, if◌then◌else◌, List, [], ◌∷◌, ◌++◌, Option, Some, None, option_map}
use Rattle.std.specs.Char.{digit_value, encode_utf8, is_digit}
use Rattle.std.specs.Str.{chars, encode_utf8_all}
use lib.Utf8.{scalar}
use Rattle.warg_printable.specs.Characters.{backslash}
use Rattle.warg_printable.specs.declared.read.Turn.{Turn}
use Rattle.warg_printable.specs.declared.read.Turn.TheVariants.{On, Said, Bad}
use Rattle.warg_printable.specs.declared.read.Within.{Within}
use Rattle.warg_printable.specs.declared.read.Within.TheVariants.{Plain, AfterBackslash, AfterU, AfterBrace, InNumber}

-- ---- what a character does to a reader

-- outside an escape
abbrev pub plain_turn : ℕ → Turn
plain_turn c = if c == backslash then On AfterBackslash else Said c

-- behind a backslash stands another, or the `u` of a number
abbrev pub backslash_turn : ℕ → Turn
backslash_turn c = if c == backslash then Said backslash else if c == 117 then On AfterU else Bad

-- behind `\u` stands a brace
abbrev pub brace_turn : ℕ → Turn
brace_turn c = if c == 123 then On AfterBrace else Bad

-- one hex digit more of a number that some character has
abbrev pub digit_turn : ℕ → ℕ → Turn
digit_turn n c = if is_digit c 16 && nat_lt (n * 16 + digit_value c) 0x11_0000 then On (InNumber (n * 16 + digit_value c)) else Bad

-- behind the last digit the character is said, if the number has one
abbrev pub number_turn : ℕ → Turn
number_turn n = if scalar n then Said n else Bad

-- by where the reader stands
abbrev pub next_turn : Within → ℕ → Turn
next_turn Plain c = plain_turn c
next_turn AfterBackslash c = backslash_turn c
next_turn AfterU c = brace_turn c
next_turn AfterBrace c = digit_turn 0 c
next_turn (InNumber n) c = if c == 125 then number_turn n else digit_turn n c

-- the turn leaves the reader here, with what it said behind what was read; nowhere, if the text is none that is printed
abbrev pub IsTaken : Turn → List ℕ → Option Within → List ℕ → Type 0
IsTaken (On next) old within new = (within ≡ Some next) × (new ≡ old)
IsTaken (Said c) old within new = (within ≡ Some Plain) × (new ≡ old ++ encode_utf8 c)
IsTaken Bad old within new = within ≡ None

-- ---- texts

-- a character in front of the others
abbrev pub in_front : ℕ → Option (List ℕ) → Option (List ℕ)
in_front c rest = option_map (λ (cs : List ℕ). c ∷ cs) rest

-- what is read by a turn and then the rest
abbrev pub read_on : Turn → (Within → Option (List ℕ)) → Option (List ℕ)
read_on (On next) rest = rest next
read_on (Said c) rest = in_front c (rest Plain)
read_on Bad rest = None

-- whether a text may end here
abbrev pub may_end : Within → Bool
may_end Plain = true
may_end AfterBackslash = false
may_end AfterU = false
may_end AfterBrace = false
may_end (InNumber n) = false

-- the characters that printed ones stand for
abbrev pub read_from : Within → List ℕ → Option (List ℕ)
read_from within [] = if may_end within then Some [] else None
read_from within (c ∷ cs) = read_on (next_turn within c) (λ next. read_from next cs)

-- the text that a printed one stands for; none, where it is none that is printed
unfoldable pub unprintable : List ℕ → Option (List ℕ)
unprintable text = option_map encode_utf8_all (read_from Plain (chars text))
