use Rattle.tool_checkpoints.proofs.compare.unproved_line.Goals as goal

pub returns : goal.returns
returns c = rw c.in_ok-proof.ensures at c.checkpoints_line.ensures
