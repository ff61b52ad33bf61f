use Rattle.std.proofs.Common.{Some, ap, ◌∙◌}
use Rattle.warg_c.specs.AppendErrors.{signed_errors}
use Rattle.warg_c.specs.Runs.{ByLibrary}
use Rattle.warg_c.proofs.Answers.{signed-answers, append-call}
use Rattle.warg_c.proofs.HeldByStatus.{SignedCall, signed-each}
use Rattle.warg_c.proofs.exports.appending.warg_append_signed.Goals as goal
use Rattle.warg_c.proofs.exports.appending.warg_append_signed.Goals.{After-status-2}

-- what is answered, each status by itself
answer : (c : After-status-2) → SignedCall c.status-2.result c.args.log.now.owned.kept c.put.new.self.owned.kept c.args.envelope.now c.append_signed_held-outcome.new.used c.append_signed_held-outcome.new.text
answer c =
    signed-each _ _ _ _ _ _ (signed-answers c.args.log.now.owned.kept c.put.new.self.owned.kept c.deref_mut.result.now c.append_signed_held-outcome.new.held (ap (λ h. Some h) c.deref_mut.ensures.value ∙ c.in-Some.ensures.taken) c.put.ensures c.append_signed_held-outcome.result c.status-2.result c.status-2.ensures.code c.status-2.ensures.status
    c.args.envelope.now (λ held. signed_errors held c.args.envelope.now c.append_signed_held-outcome.new.used c.append_signed_held-outcome.new.text) c.append_signed_held-outcome.ensures.appended c.append_signed_held-outcome.ensures.lawful c.append_signed_held-outcome.ensures.err)

pub returns-clause-statuses : goal.returns-clause-statuses
returns-clause-statuses c = (answer (goal.at.returns-clause-statuses c).After-status-2).statuses

pub returns-clause-not_open : goal.returns-clause-not_open
returns-clause-not_open c = (answer (goal.at.returns-clause-not_open c).After-status-2).not_open

pub returns-clause-ok : goal.returns-clause-ok
returns-clause-ok c = (answer (goal.at.returns-clause-ok c).After-status-2).ok

pub returns-clause-no_envelope : goal.returns-clause-no_envelope
returns-clause-no_envelope c = (answer (goal.at.returns-clause-no_envelope c).After-status-2).no_envelope

pub returns-clause-refused : goal.returns-clause-refused
returns-clause-refused c = (answer (goal.at.returns-clause-refused c).After-status-2).refused

pub returns-clause-unknown_algorithm : goal.returns-clause-unknown_algorithm
returns-clause-unknown_algorithm c = (answer (goal.at.returns-clause-unknown_algorithm c).After-status-2).unknown_algorithm

pub returns-clause-call : goal.returns-clause-call
returns-clause-call c =
    append-call c.args.log.now.owned.kept c.put.new.self.owned.kept c.deref_mut.result.now c.append_signed_held-outcome.new.held (ap (λ h. Some h) c.deref_mut.ensures.value ∙ c.in-Some.ensures.taken) c.put.ensures c.append_signed_held-outcome.result
    (record { envelope = c.args.envelope.now; verdict = ByLibrary; status = c.status-2.result }) c.status-2.ensures.code c.append_signed_held-outcome.ensures.appended c.append_signed_held-outcome.ensures.unchanged
