use Rattle.warg_replay.proofs.AuditedLogLemmas.HoldLemmas.{held-last}
use Rattle.warg_replay.proofs.AuditedLogLemmas.GrantIndexLemmas.{held-all}
use Rattle.warg_replay.proofs.audited_log.laws.last_entry_decides.Goals as goal

pub returns-clause-held : goal.returns-clause-held
returns-clause-held g c = λ h k p. held-last k p h

pub returns-clause-records : goal.returns-clause-records
returns-clause-records g c = λ es k p. held-all g.L.Validator.effects es k p
