use Rattle.warg_log.proofs.FormLaws.{accepted-read, accepted-form}
use Rattle.warg_log.proofs.laws.form.Goals as goal

pub returns-clause-records : goal.returns-clause-records
returns-clause-records g c = λ read own_state laws b es h. accepted-read g.M.OwnState.rules g.M.Permission.PartialEq.eq read own_state b laws es h

pub returns-clause-form : goal.returns-clause-form
returns-clause-form g c = λ read own_state laws b es some h. accepted-form g.M.OwnState.rules g.M.Permission.PartialEq.eq read own_state b laws es some h
