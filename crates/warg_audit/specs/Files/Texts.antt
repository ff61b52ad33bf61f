-- The texts that answers print.
use Rattle.std.specs.Prelude.{ℕ, List, [], ◌∷◌, ◌++◌, codes}
use Rattle.warg_audit.specs.Files.OutputData.{OutputData}

-- a text that is a positive answer, and one that is a negative one
abbrev pub yes : List ℕ → OutputData
yes text = record { text = text; status = 0 }

abbrev pub no : List ℕ → OutputData
no text = record { text = text; status = 1 }

-- no text, with a status
abbrev pub silent : ℕ → OutputData
silent status = record { text = []; status = status }

-- a text on a line
abbrev pub line : List ℕ → List ℕ
line text = text ++ codes "\n"

-- the lines, one after another
abbrev pub all_lines : List (List ℕ) → List ℕ
all_lines [] = []
all_lines (text ∷ more) = line text ++ all_lines more

-- what is printed of one side, where that is no lawful log
abbrev pub side_text : List ℕ → OutputData → OutputData
side_text name printed = record { text = name ++ codes ": " ++ printed.text; status = printed.status }
