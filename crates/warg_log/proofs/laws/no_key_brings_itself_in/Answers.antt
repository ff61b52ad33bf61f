use Rattle.warg_log.proofs.AdmissionLaws.{accepted-admitted}
use Rattle.warg_log.proofs.laws.no_key_brings_itself_in.Goals as goal

pub returns : goal.returns
returns g c = λ owns read own_state laws b es h ones. accepted-admitted g.M.OwnState.rules g.M.Permission.PartialEq.eq read own_state b owns laws es h ones
