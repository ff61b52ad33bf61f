use Rattle.tool_checkpoints.proofs.verify.verify_answer.Goals as goal

pub returns-in-Inclusion-clause-answered : goal.returns-in-Inclusion-clause-answered
returns-in-Inclusion-clause-answered g c = rw c.in-Inclusion.is c.inclusion_answer.ensures.answered

pub returns-in-Consistency-clause-answered : goal.returns-in-Consistency-clause-answered
returns-in-Consistency-clause-answered g c = rw c.in-Consistency.is c.consistency_answer.ensures.answered

pub returns-in-Head-clause-answered : goal.returns-in-Head-clause-answered
returns-in-Head-clause-answered g c = rw c.in-Head.is c.head_answer.ensures.answered

pub returns-in-Absence-clause-answered : goal.returns-in-Absence-clause-answered
returns-in-Absence-clause-answered g c = rw c.in-Absence.is c.absence_answer.ensures.answered
