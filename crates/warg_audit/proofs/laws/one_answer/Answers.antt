use Rattle.warg_audit.proofs.WholeAnswers.{answer_is, answer_only}
use Rattle.warg_audit.proofs.laws.one_answer.Goals as goal

pub returns-clause-some : goal.returns-clause-some
returns-clause-some c = answer_is c.one_id_answer.ensures.some c.one_log_answer.ensures.some

pub returns-clause-only : goal.returns-clause-only
returns-clause-only c = answer_only c.one_id_answer.ensures.only c.one_log_answer.ensures.only
