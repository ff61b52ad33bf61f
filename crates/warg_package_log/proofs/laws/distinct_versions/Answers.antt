use Rattle.warg_package_log.proofs.AcceptedLaws.{accepted-distinct}
use Rattle.warg_package_log.proofs.laws.distinct_versions.Goals as goal

pub returns : goal.returns
returns c = λ b es h. accepted-distinct b es h
