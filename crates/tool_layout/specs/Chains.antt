-- The text of a chain, laid out for people: each link is indented by two spaces more than the one before it.
use Rattle.std.specs.Prelude.{ℕ, ◌+◌, ◌*◌, List, [], ◌∷◌, ◌++◌, min}
use Rattle.std.specs.Str.Lines.{lines}
use Rattle.warg_printable.specs.Lines.{with_ends}
use Rattle.tool_layout.specs.Layouts.{laid_line}
use Rattle.tool_layout.specs.Logs.{spaces}
use Rattle.tool_layout.specs.declared.look.Look.{Look}

module _ (look : Look) where
  -- the line of a place, laid out and indented: by two spaces a place, and by forty at most
  abbrev pub chain_line : ℕ → List ℕ → List ℕ
  chain_line place line = spaces (2 * min place 20) ++ laid_line look line

  -- lines, the first of them being at the place
  abbrev pub chain_lines : ℕ → List (List ℕ) → List (List ℕ)
  chain_lines place [] = []
  chain_lines place (line ∷ more) = chain_line place line ∷ chain_lines (place + 1) more

  -- the text of a chain, laid out; places are counted from 0
  abbrev pub chain_layout : List ℕ → List ℕ
  chain_layout text = with_ends (chain_lines 0 (lines text))
