use Rattle.warg_log.proofs.EquivalentStates.{log-equals}
use Rattle.warg_log.proofs.laws.equal_logs_are_equivalent.Goals as goal

pub returns : goal.returns
returns g c = log-equals g.met.M.Permission.Eq.laws g.M.PartialEq.eq g.M.OwnState.view g.M.OwnState.equivalent g.met.M.OwnState.equals
