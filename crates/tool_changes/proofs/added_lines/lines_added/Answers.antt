use Rattle.tool_changes.proofs.added_lines.lines_added.Goals as goal

pub returns : goal.returns
returns c = rw (c.as_slice.ensures.value, c.in_ok-known.ensures) at c.lines_without.ensures
