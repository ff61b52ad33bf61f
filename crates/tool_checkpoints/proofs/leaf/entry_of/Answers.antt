use Rattle.std.specs.Prelude.{[]}
use Rattle.tool_checkpoints.proofs.leaf.entry_of.Goals as goal

pub returns : goal.returns
returns c = c.in_ok-visit.ensures.ok [] c.new-bytes.ensures.items
