use Rattle.std.proofs.Common.{sym}
use Rattle.warg_log.proofs.KindLaws.{held-view}
use Rattle.warg_log_laws.specs.RuledLogs.{kind}
use Rattle.warg_log_laws.proofs.laws.effects_are_what_is_held.Goals as goal

pub returns : goal.returns
returns g c = λ es k p. let l = g.L.RuledLog in sym (held-view l.rules l.same l.read l.listed k p (kind l.ruled).start es)
