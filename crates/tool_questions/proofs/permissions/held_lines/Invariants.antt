use Rattle.std.proofs.Common.{◌≡◌, ◌++◌, length, string_bytes}
use Rattle.tool_questions.proofs.TextLemmas.{held_lines}
use Rattle.tool_questions.proofs.permissions.held_lines.Given as goal

-- the lines so far, and those of the permissions that are left, are all
abbrev pub invariant-loop-permission : goal.invariant-loop-permission
invariant-loop-permission g l =
    string_bytes l.text ++ held_lines g.L.ToolLog.text_of (g.L.Validator.holds (g.L.Validator.view l.state) l.key_id) l.rest
    ≡ held_lines g.L.ToolLog.text_of (g.L.Validator.holds (g.L.Validator.view l.state) l.key_id) l.permissions

abbrev pub decreases-loop-permission : goal.decreases-loop-permission
decreases-loop-permission g l = length l.rest
