use Rattle.warg_log.proofs.LogErrorLaws.{told-apart}
use Rattle.warg_log.proofs.laws.refusals_tell_apart.Goals as goal

pub returns : goal.returns
returns g c = told-apart
