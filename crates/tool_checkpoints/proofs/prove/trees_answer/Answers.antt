use Rattle.tool_checkpoints.proofs.prove.trees_answer.Goals as goal

pub returns-in-Checkpoint : goal.returns-in-Checkpoint
returns-in-Checkpoint c = rw c.in-Checkpoint.is c.checkpoint_answer.ensures

pub returns-in-Inclusion : goal.returns-in-Inclusion
returns-in-Inclusion c = rw c.in-Inclusion.is c.inclusion_answer.ensures

pub returns-in-Consistency : goal.returns-in-Consistency
returns-in-Consistency c = rw c.in-Consistency.is c.consistency_answer.ensures

pub returns-in-Head : goal.returns-in-Head
returns-in-Head c = rw c.in-Head.is c.head_answer.ensures
