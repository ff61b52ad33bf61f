use Rattle.std.proofs.Common.{refl}
use Rattle.warg_replay.proofs.AuditedLogLemmas.HeadLemmas.{heads_of_same}
use Rattle.warg_replay.proofs.audited_log.laws.equal_contents.Goals as goal

pub returns : goal.returns
returns g c = λ b d es fs left right same. let k = g.L.Validator.kind in heads_of_same k g.met.L.Validator.laws b d (k.view_of es) (k.view_of fs) es fs left right refl refl same
