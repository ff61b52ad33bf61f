use Rattle.std.proofs.Common.{sym, ◌∙◌}
use Rattle.warg_replay.specs.AuditedLog.Log.{envelopes}
use Rattle.warg_log_laws.specs.RuledLogs.{effects, kind}
use Rattle.warg_log_laws.proofs.AuditedGrowth.{held-same}
use Rattle.warg_log_laws.proofs.Holdings.{answered}
use Rattle.warg_log_laws.proofs.HistoryEntries.{effects-history}
use Rattle.warg_log_laws.proofs.laws.chains_where_held.Goals as goal

pub returns-clause-history : goal.returns-clause-history
returns-clause-history g c = λ es k p chain answer.
    let l = g.L.RuledLog in
    answered (effects l.ruled) es k p chain answer ∙ effects-history l.rules l.same l.read es k p

pub returns-clause-state : goal.returns-clause-state
returns-clause-state g c = λ b s records audited k p chain answer.
    let l = g.L.RuledLog in
    let es = envelopes records in
    let by_rules = g.met.L.RuledLog.audited_by_rules b s records audited in
    answered (effects l.ruled) es k p chain answer
    ∙ effects-history l.rules l.same l.read es k p
    ∙ sym (held-same (l.says s) ((kind l.ruled).view_of es) by_rules.stands k p)
