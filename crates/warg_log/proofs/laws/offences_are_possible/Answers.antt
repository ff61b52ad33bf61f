use Rattle.warg_log.proofs.PossibleLaws.{record-possible}
use Rattle.warg_log.proofs.laws.offences_are_possible.Goals as goal

pub returns : goal.returns
returns g c = record-possible g.M.OwnState.rules g.M.Permission.PartialEq.eq
