use Rattle.std.proofs.Common.{refl}
use Rattle.warg_log.proofs.KindLaws.{log_laws}
use Rattle.warg_log.proofs.laws.is_a_kind.Goals as goal

pub returns : goal.returns
returns g c = λ read. log_laws g.M.OwnState.rules g.M.Permission.PartialEq.eq read (g.M.OwnState.rules.after g.M.OwnState.rules.start) g.met.M.OwnState.after_none g.met.M.OwnState.after_append (λ es h. refl)
