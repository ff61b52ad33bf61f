use Rattle.tool_changes.proofs.demands.has_id.Goals as goal

pub returns : goal.returns
returns c = rw (c.as_str.ensures.value, c.in_ok-text.ensures) at c.begins_as_said.ensures
