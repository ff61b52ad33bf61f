use Rattle.std.proofs.Common.{◌≡◌, map, string_bytes}
use Rattle.tool_changes.specs.JsonLines.{line_objects}
use Rattle.tool_changes.proofs.json.line_objects.Given as goal

-- the objects of the lines so far
abbrev pub invariant-loop-line : goal.invariant-loop-line
invariant-loop-line l = string_bytes l.objects ≡ line_objects l.command l.status (map (λ it. it.now) l.yielded)
