use Rattle.tool_layout.proofs.LineLemmas.{spaces_pushed}
use Rattle.tool_layout.proofs.line.push_spaces.Goals as goal

pub loop-preserved : goal.loop-preserved
loop-preserved c = spaces_pushed _ _ _ c.loop.counter c.loop.invariant c.in_ok-push_str.ensures.bytes
