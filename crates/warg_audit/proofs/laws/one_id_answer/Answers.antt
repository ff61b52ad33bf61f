use Rattle.warg_audit.proofs.AnswerLaws.{id_is, id_only}
use Rattle.warg_audit.proofs.laws.one_id_answer.Goals as goal

pub returns-clause-some : goal.returns-clause-some
returns-clause-some c = id_is c.decoding_computes.ensures.envelope

pub returns-clause-only : goal.returns-clause-only
returns-clause-only c = id_only c.decoding_computes.ensures.envelope
