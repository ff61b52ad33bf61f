-- Answers in colour: the first word of a line tells a yes from a no.
use Rattle.std.specs.Prelude.{ℕ, Bool, if◌then◌else◌, List, [], ◌∷◌, ◌++◌, codes, drop, length, map, Option, Some, None}
use Rattle.std.specs.List.{before_first, list_any}
use Rattle.std.specs.Str.{bytes_eq}
use Rattle.std.specs.Str.Lines.{lines}
use Rattle.warg_printable.specs.Lines.{with_ends}
use Rattle.tool_layout.specs.Names.{is_space}

-- the words of a no
abbrev pub no_words : List (List ℕ)
no_words =
    codes "refused" ∷ codes "bad" ∷ codes "too" ∷ codes "empty" ∷ codes "other" ∷ codes "none" ∷ codes "unknown" ∷ codes "rolled" ∷ codes "fork"
    ∷ codes "collision" ∷ codes "does" ∷ codes "no" ∷ codes "busy" ∷ []

-- the words of a yes
abbrev pub yes_words : List (List ℕ)
yes_words = codes "ok" ∷ codes "same" ∷ codes "goes" ∷ codes "holds" ∷ []

-- the words that begin lines on parts of a log
abbrev pub part_words : List (List ℕ)
part_words = codes "head" ∷ codes "key" ∷ codes "release" ∷ codes "namespace" ∷ []

-- the words that begin lines on why a verdict is as it is
abbrev pub reason_words : List (List ℕ)
reason_words = codes "why:" ∷ codes "try:" ∷ codes "entry:" ∷ []

-- whether a word is one of these
abbrev pub is_of : List ℕ → List (List ℕ) → Bool
is_of word words = list_any (bytes_eq word) words

-- the number of a word's colour, if it has one: red, green, bold or yellow (ECMA-48, 8.3.117)
abbrev pub colour_of : List ℕ → Option (List ℕ)
colour_of word =
    if is_of word no_words then Some (codes "31")
    else if is_of word yes_words then Some (codes "32")
    else if is_of word part_words then Some (codes "1")
    else if is_of word reason_words then Some (codes "33")
    else None

-- `ESC [`, which begins what a terminal is told
abbrev pub escape : List ℕ
escape = 27 ∷ 91 ∷ []

-- a line whose first word is in a colour, if there is one
abbrev pub painted_by : Option (List ℕ) → List ℕ → List ℕ
painted_by None line = line
painted_by (Some colour) line =
    let word = before_first is_space line in
    escape ++ (colour ++ (codes "m" ++ (word ++ (escape ++ (codes "0m" ++ drop (length word) line)))))

-- a line with its first word in colour, if that has one
abbrev pub painted_line : List ℕ → List ℕ
painted_line line = painted_by (colour_of (before_first is_space line)) line

-- the lines of a text in colour
abbrev pub painted : List ℕ → List ℕ
painted text = with_ends (map painted_line (lines text))
