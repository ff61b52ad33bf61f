use Rattle.warg_log.proofs.KindLaws.{log_gives}
use Rattle.warg_log.proofs.laws.gives_what_is_held.Goals as goal

pub returns : goal.returns
returns g c = λ read. log_gives g.M.OwnState.rules g.M.Permission.PartialEq.eq read (g.M.OwnState.rules.after g.M.OwnState.rules.start) g.met.M.Permission.LogPermission.same_is
