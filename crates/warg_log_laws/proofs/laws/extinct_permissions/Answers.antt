use Rattle.std.proofs.Common.{sym, ◌∙◌}
use Rattle.warg_log_laws.specs.RuledLogs.{effects, is_held, kind}
use Rattle.warg_log_laws.proofs.AuditedGrowth.{held-same}
use Rattle.warg_log_laws.proofs.Holdings.{extinct-held}
use Rattle.warg_log_laws.proofs.HistoryEntries.{effects-history}
use Rattle.warg_log_laws.proofs.laws.extinct_permissions.Goals as goal

pub returns-clause-history : goal.returns-clause-history
returns-clause-history g c = λ es p.
    let l = g.L.RuledLog in
    extinct-held (effects l.ruled) es p (λ k. is_held l.ruled es k p) (λ k. effects-history l.rules l.same l.read es k p)

pub returns-clause-state : goal.returns-clause-state
returns-clause-state g c = λ s es stands p.
    let l = g.L.RuledLog in
    extinct-held (effects l.ruled) es p (λ k. (l.says s).state.authority.holds k p)
    (λ k. effects-history l.rules l.same l.read es k p ∙ sym (held-same (l.says s) ((kind l.ruled).view_of es) stands k p))
