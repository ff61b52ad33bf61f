use Rattle.warg_replay.proofs.AuditedLogLemmas.FrontLemmas.{fronts}
use Rattle.warg_replay.proofs.audited_log.laws.fronts.Goals as goal

pub returns : goal.returns
returns g c = λ b d es fs n left right below head. fronts g.L.Validator.kind g.met.L.Validator.laws b d es fs n left right below head
