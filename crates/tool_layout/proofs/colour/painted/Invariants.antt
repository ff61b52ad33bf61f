use Rattle.std.proofs.Common.{◌≡◌, map, string_bytes}
use Rattle.warg_printable.specs.Lines.{with_ends}
use Rattle.tool_layout.specs.Colours.{painted_line}
use Rattle.tool_layout.proofs.colour.painted.Given as goal

-- the lines so far
abbrev pub invariant-loop-line : goal.invariant-loop-line
invariant-loop-line l = string_bytes l.painted ≡ with_ends (map painted_line (map (λ it. it.now) l.yielded))
