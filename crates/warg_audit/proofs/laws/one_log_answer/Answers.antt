use Rattle.warg_audit.proofs.WholeAnswers.{log_kind_is, log_kind_only}
use Rattle.warg_audit.proofs.laws.one_log_answer.Goals as goal

pub returns-clause-some : goal.returns-clause-some
returns-clause-some c = log_kind_is c.first_offence.ensures c.first_offence-2.ensures

pub returns-clause-only : goal.returns-clause-only
returns-clause-only c = log_kind_only c.first_offence.ensures c.first_offence-2.ensures
