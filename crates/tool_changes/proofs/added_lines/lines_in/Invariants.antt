use Rattle.std.proofs.Common.{◌≡◌}
use Rattle.tool_changes.proofs.added_lines.lines_in.Given as goal

-- the lines so far
abbrev pub invariant-loop-line : goal.invariant-loop-line
invariant-loop-line l = l.found.items ≡ l.yielded
