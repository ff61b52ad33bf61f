use Rattle.warg_replay.proofs.AuditedLogLemmas.FrontLemmas.{equal-heads}
use Rattle.warg_replay.proofs.audited_log.laws.equal_heads.Goals as goal

pub returns : goal.returns
returns g c = λ b d es fs left right head. equal-heads g.L.Validator.kind g.met.L.Validator.laws b d es fs left right head
