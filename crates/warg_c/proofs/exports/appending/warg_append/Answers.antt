use Rattle.std.proofs.Common.{Some, ap, ◌∙◌}
use Rattle.warg_c.specs.Runs.{ByCaller}
use Rattle.warg_c.proofs.Answers.{append-answers, append-call}
use Rattle.warg_c.proofs.HeldByStatus.{AppendCall, append-each}
use Rattle.warg_c.proofs.exports.appending.warg_append.Goals as goal
use Rattle.warg_c.proofs.exports.appending.warg_append.Goals.{After-status-2}

-- what is answered, each status by itself
answer : (c : After-status-2) → AppendCall c.status-2.result c.args.log.now.owned.kept c.put.new.self.owned.kept c.args.belongs c.args.asked.now c.args.question.now c.args.envelope.now c.append_told-outcome.new.used c.append_told-outcome.new.text
answer c =
    append-each _ _ _ _ _ _ _ _ _ (append-answers c.args.log.now.owned.kept c.put.new.self.owned.kept c.deref_mut.result.now c.append_told-outcome.new.held (ap (λ h. Some h) c.deref_mut.ensures.value ∙ c.in-Some.ensures.taken) c.put.ensures c.append_told-outcome.result c.status-2.result c.status-2.ensures.code c.status-2.ensures.status
    c.args.belongs c.args.asked.now c.args.question.now c.args.envelope.now c.append_told-outcome.new.used c.append_told-outcome.new.text c.append_told-outcome.ensures.appended c.append_told-outcome.ensures.err)

pub returns-clause-statuses : goal.returns-clause-statuses
returns-clause-statuses c = (answer (goal.at.returns-clause-statuses c).After-status-2).statuses

pub returns-clause-not_open : goal.returns-clause-not_open
returns-clause-not_open c = (answer (goal.at.returns-clause-not_open c).After-status-2).not_open

pub returns-clause-ok : goal.returns-clause-ok
returns-clause-ok c = (answer (goal.at.returns-clause-ok c).After-status-2).ok

pub returns-clause-no_envelope : goal.returns-clause-no_envelope
returns-clause-no_envelope c = (answer (goal.at.returns-clause-no_envelope c).After-status-2).no_envelope

pub returns-clause-refused : goal.returns-clause-refused
returns-clause-refused c = (answer (goal.at.returns-clause-refused c).After-status-2).refused

pub returns-clause-bad_argument : goal.returns-clause-bad_argument
returns-clause-bad_argument c = (answer (goal.at.returns-clause-bad_argument c).After-status-2).bad_argument

pub returns-clause-call : goal.returns-clause-call
returns-clause-call c =
    append-call c.args.log.now.owned.kept c.put.new.self.owned.kept c.deref_mut.result.now c.append_told-outcome.new.held (ap (λ h. Some h) c.deref_mut.ensures.value ∙ c.in-Some.ensures.taken) c.put.ensures c.append_told-outcome.result
    (record { envelope = c.args.envelope.now; verdict = ByCaller c.args.question.now c.args.asked.now c.args.belongs; status = c.status-2.result }) c.status-2.ensures.code c.append_told-outcome.ensures.appended c.append_told-outcome.ensures.unchanged
