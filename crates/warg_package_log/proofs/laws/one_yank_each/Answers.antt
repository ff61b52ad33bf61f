use Rattle.warg_package_log.proofs.AcceptedLaws.{accepted-one-yank}
use Rattle.warg_package_log.proofs.laws.one_yank_each.Goals as goal

pub returns : goal.returns
returns c = λ b es h version. accepted-one-yank b es h version
