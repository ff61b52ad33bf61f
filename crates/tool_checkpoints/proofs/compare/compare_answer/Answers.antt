use Rattle.tool_checkpoints.proofs.compare.compare_answer.Goals as goal

pub returns-in-Checkpoints-clause-answered : goal.returns-in-Checkpoints-clause-answered
returns-in-Checkpoints-clause-answered g c = rw c.in-Checkpoints.is c.checkpoints_answer.ensures.answered

pub returns-in-Leaves-clause-answered : goal.returns-in-Leaves-clause-answered
returns-in-Leaves-clause-answered g c = rw c.in-Leaves.is c.leaves_answer.ensures.answered

pub returns-in-Heads-clause-answered : goal.returns-in-Heads-clause-answered
returns-in-Heads-clause-answered g c = rw c.in-Heads.is c.heads_answer.ensures.answered

pub returns-in-Beginnings-clause-answered : goal.returns-in-Beginnings-clause-answered
returns-in-Beginnings-clause-answered g c = rw c.in-Beginnings.is c.beginnings_answer.ensures.answered
