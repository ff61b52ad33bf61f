use Rattle.tool_changes.proofs.demands.test_words.Goals as goal

pub returns-in-Some-clause-said : goal.returns-in-Some-clause-said
returns-in-Some-clause-said c = rw c.in-Some.is c.test_id.ensures.said

pub returns-in-Some-clause-err : goal.returns-in-Some-clause-err
returns-in-Some-clause-err c = rw c.in-Some.is c.test_id.ensures.err

pub returns-in-None-clause-said : goal.returns-in-None-clause-said
returns-in-None-clause-said c = rw c.in-None.is tt
