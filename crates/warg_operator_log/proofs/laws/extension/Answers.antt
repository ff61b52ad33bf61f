use Rattle.warg_operator_log.proofs.AcceptedLaws.{accepted-extension}
use Rattle.warg_operator_log.proofs.laws.extension.Goals as goal

pub returns : goal.returns
returns c = λ b es fs h name s there. accepted-extension b es fs h name s there
