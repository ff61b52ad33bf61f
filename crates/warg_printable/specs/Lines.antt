-- Printed texts, line by line.
use Rattle.std.specs.Prelude.{◌≡◌, ℕ, List, [], ◌∷◌, ◌++◌, codes}
use Rattle.std.specs.List.{AllByRecursion}
use Rattle.warg_printable.specs.Printable.{IsPrintable}

-- the lines, a line feed behind each
abbrev pub with_ends : List (List ℕ) → List ℕ
with_ends [] = []
with_ends (line ∷ more) = (line ++ codes "\n") ++ with_ends more

-- the text is these lines, and no hidden character stands in any
pub record IsPrintedLines (text : List ℕ) (lines : List (List ℕ)) : Type 0 where
  pub each : AllByRecursion IsPrintable lines
  pub is : text ≡ with_ends lines

-- the text is lines with no hidden character in them
abbrev pub IsPrintedText : List ℕ → Type 0
IsPrintedText text = (lines : List (List ℕ)) × IsPrintedLines text lines
