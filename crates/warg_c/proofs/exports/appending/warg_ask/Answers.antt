use Rattle.std.proofs.Common.{Some, take, ap, ◌∙◌}
use Rattle.warg_c.specs.AppendAnswers.{ask_tells}
use Rattle.warg_c.specs.AppendErrors.{ask_errors}
use Rattle.warg_c.proofs.Answers.{ask-answers}
use Rattle.warg_c.proofs.HeldByStatus.{AskCall, ask-each}
use Rattle.warg_c.proofs.exports.appending.warg_ask.Goals as goal
use Rattle.warg_c.proofs.exports.appending.warg_ask.Goals.{After-status-2}

-- what is answered, each status by itself
answer : (c : After-status-2) → AskCall c.status-2.result c.args.log.now.owned.kept c.args.envelope.now c.ask_held-outcome.new.asked c.args.bytes.now c.ask_held-outcome.new.used c.ask_held-outcome.new.bytes
answer c =
    ask-each _ _ _ _ _ _ _ (ask-answers c.args.log.now.owned.kept c.deref_mut.result.now (ap (λ h. Some h) c.deref_mut.ensures.value ∙ c.in-Some.ensures.taken) c.ask_held-outcome.result c.status-2.result c.status-2.ensures.code c.status-2.ensures.status
    (λ held. ask_tells held c.args.envelope.now c.ask_held-outcome.new.asked (take c.ask_held-outcome.new.used c.ask_held-outcome.new.bytes)) (λ held. ask_errors held c.args.envelope.now c.ask_held-outcome.new.asked c.args.bytes.now c.ask_held-outcome.new.used c.ask_held-outcome.new.bytes)
    c.ask_held-outcome.ensures.asked c.ask_held-outcome.ensures.err)

pub returns-clause-statuses : goal.returns-clause-statuses
returns-clause-statuses c = (answer (goal.at.returns-clause-statuses c).After-status-2).statuses

pub returns-clause-not_open : goal.returns-clause-not_open
returns-clause-not_open c = (answer (goal.at.returns-clause-not_open c).After-status-2).not_open

pub returns-clause-ok : goal.returns-clause-ok
returns-clause-ok c = (answer (goal.at.returns-clause-ok c).After-status-2).ok

pub returns-clause-too_small : goal.returns-clause-too_small
returns-clause-too_small c = (answer (goal.at.returns-clause-too_small c).After-status-2).too_small

pub returns-clause-no_envelope : goal.returns-clause-no_envelope
returns-clause-no_envelope c = (answer (goal.at.returns-clause-no_envelope c).After-status-2).no_envelope

pub returns-clause-refused : goal.returns-clause-refused
returns-clause-refused c = (answer (goal.at.returns-clause-refused c).After-status-2).refused
