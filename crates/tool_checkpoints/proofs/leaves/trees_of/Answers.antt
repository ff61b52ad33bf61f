use Rattle.tool_checkpoints.proofs.leaves.trees_of.Goals as goal

pub returns-clause-ok : goal.returns-clause-ok
returns-clause-ok c = rw (c.as_slice.ensures.value, c.in_ok-text.ensures) at c.trees_of_text.ensures.ok

pub returns-clause-err : goal.returns-clause-err
returns-clause-err c = rw (c.as_slice.ensures.value, c.in_ok-text.ensures) at c.trees_of_text.ensures.err
