use Rattle.weoldrin.proofs.verified.known_answer.Goals as goal

pub returns-then-invocation-clause-files : goal.returns-then-invocation-clause-files
returns-then-invocation-clause-files g c = rw c.if-invocation.true c.respond.ensures.files

pub returns-else-invocation-clause-files : goal.returns-else-invocation-clause-files
returns-else-invocation-clause-files g c = rw c.if-invocation.false c.respond-else-invocation.ensures.files
