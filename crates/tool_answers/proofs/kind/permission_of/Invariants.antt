use Rattle.std.proofs.Common.{◌≡◌}
use Rattle.tool_answers.proofs.WordLemmas.{IsNoneOf}
use Rattle.tool_answers.proofs.kind.permission_of.Given as goal

-- none of the permissions so far has the text
abbrev pub invariant-loop-permission : goal.invariant-loop-permission
invariant-loop-permission g l = IsNoneOf (λ permission. g.L.ToolLog.text_of permission ≡ l.text) l.permission-items l.permission-index
