use Rattle.std.proofs.Common.{◌≡◌, map, string_bytes}
use Rattle.warg_printable.specs.Lines.{with_ends}
use Rattle.tool_layout.specs.Layouts.{laid_line}
use Rattle.tool_layout.specs.Logs.{padded}
use Rattle.tool_layout.proofs.log.log_layout.Given as goal

-- the lines so far
abbrev pub invariant-loop-line : goal.invariant-loop-line
invariant-loop-line l =
    string_bytes l.laid ≡ with_ends (map (λ line. laid_line l.look (padded l.width line)) (map (λ it. it.now) l.yielded))
