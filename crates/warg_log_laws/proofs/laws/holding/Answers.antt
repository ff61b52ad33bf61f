use Rattle.warg_log_laws.proofs.AuditedGrowth.{held-same}
use Rattle.warg_log_laws.proofs.HistoryEntries.{effects-history}
use Rattle.warg_log_laws.specs.RuledLogs.{kind}
use Rattle.warg_log_laws.proofs.laws.holding.Goals as goal

pub returns-clause-effects : goal.returns-clause-effects
returns-clause-effects g c = λ es k p. let l = g.L.RuledLog in effects-history l.rules l.same l.read es k p

pub returns-clause-state : goal.returns-clause-state
returns-clause-state g c = λ s es stands k p. let l = g.L.RuledLog in held-same (l.says s) ((kind l.ruled).view_of es) stands k p
