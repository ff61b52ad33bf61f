use Rattle.std.proofs.Common.{◌≡◌, map}
use Rattle.tool_layout.specs.Logs.{widest}
use Rattle.tool_layout.proofs.log.widest.Given as goal

-- the widest of the lines so far
abbrev pub invariant-loop-line : goal.invariant-loop-line
invariant-loop-line l = l.width ≡ widest (map (λ it. it.now) l.yielded)
