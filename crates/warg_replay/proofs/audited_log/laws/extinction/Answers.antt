use Rattle.warg_replay.proofs.AuditedLogLemmas.ExtinctionLemmas.{extinction}
use Rattle.warg_replay.proofs.audited_log.laws.extinction.Goals as goal

pub returns : goal.returns
returns g c = λ b es fs lawful. extinction g.L.Validator.kind g.met.L.Validator.laws g.L.Validator.effects g.met.L.Validator.gives_what_is_held b es fs lawful
