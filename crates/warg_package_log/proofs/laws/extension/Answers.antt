use Rattle.warg_package_log.proofs.AcceptedLaws.{accepted-extension}
use Rattle.warg_package_log.proofs.laws.extension.Goals as goal

pub returns : goal.returns
returns c = λ b es fs h. accepted-extension b es fs h
