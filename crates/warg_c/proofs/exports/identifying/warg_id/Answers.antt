use Rattle.warg_c.proofs.Codes.{answered}
use Rattle.warg_c.proofs.HeldByStatus.{IdCall, id-each}
use Rattle.warg_c.proofs.exports.identifying.warg_id.Goals as goal
use Rattle.warg_c.proofs.exports.identifying.warg_id.Goals.{After-status}

-- what is answered, each status by itself
answer : (c : After-status) → IdCall c.status.result c.args.kind c.args.envelope.now c.args.text.now c.id_of.new.used c.id_of.new.text
answer c = id-each _ _ _ _ _ _ (answered _ _ c.id_of.result c.status.result c.status.ensures.code c.status.ensures.status c.id_of.ensures.ok c.id_of.ensures.err)

pub returns-clause-statuses : goal.returns-clause-statuses
returns-clause-statuses c = (answer (goal.at.returns-clause-statuses c).After-status).statuses

pub returns-clause-ok : goal.returns-clause-ok
returns-clause-ok c = (answer (goal.at.returns-clause-ok c).After-status).ok

pub returns-clause-out_of_memory : goal.returns-clause-out_of_memory
returns-clause-out_of_memory c = (answer (goal.at.returns-clause-out_of_memory c).After-status).out_of_memory

pub returns-clause-too_small : goal.returns-clause-too_small
returns-clause-too_small c = (answer (goal.at.returns-clause-too_small c).After-status).too_small

pub returns-clause-no_envelope : goal.returns-clause-no_envelope
returns-clause-no_envelope c = (answer (goal.at.returns-clause-no_envelope c).After-status).no_envelope

pub returns-clause-bad_argument : goal.returns-clause-bad_argument
returns-clause-bad_argument c = (answer (goal.at.returns-clause-bad_argument c).After-status).bad_argument
