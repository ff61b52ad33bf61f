use Rattle.warg_operator_log.proofs.AcceptedLaws.{accepted-one-entry}
use Rattle.warg_operator_log.proofs.laws.one_entry_each.Goals as goal

pub returns : goal.returns
returns c = λ b es h name. accepted-one-entry b es h name
