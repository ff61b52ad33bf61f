use Rattle.tool_checkpoints.proofs.prove.asked_of.Goals as goal

pub returns-in-Inclusion-clause-ok : goal.returns-in-Inclusion-clause-ok
returns-in-Inclusion-clause-ok c = rw c.in-Inclusion.is c.inclusion_asked.ensures.ok

pub returns-in-Inclusion-clause-err : goal.returns-in-Inclusion-clause-err
returns-in-Inclusion-clause-err c = rw c.in-Inclusion.is c.inclusion_asked.ensures.err

pub returns-in-Consistency-clause-ok : goal.returns-in-Consistency-clause-ok
returns-in-Consistency-clause-ok c = rw c.in-Consistency.is c.consistency_asked.ensures.ok

pub returns-in-Consistency-clause-err : goal.returns-in-Consistency-clause-err
returns-in-Consistency-clause-err c = rw c.in-Consistency.is c.consistency_asked.ensures.err

pub returns-in-Head-clause-ok : goal.returns-in-Head-clause-ok
returns-in-Head-clause-ok c = rw c.in-Head.is c.head_asked.ensures.ok

pub returns-in-Head-clause-err : goal.returns-in-Head-clause-err
returns-in-Head-clause-err c = rw c.in-Head.is c.head_asked.ensures.err
