use Rattle.warg_log.proofs.NextLaws.{version-newest}
use Rattle.warg_operator_log.proofs.laws.newest_version.Goals as goal

pub returns : goal.returns
returns c = version-newest
