use Rattle.warg_replay.proofs.LogLaws.{accepted-next, view_of-next}
use Rattle.warg_replay.proofs.laws.one_more.Goals as goal

pub returns-clause-accepted : goal.returns-clause-accepted
returns-clause-accepted g c = λ b es e. accepted-next g.L.Validator.kind g.met.L.Validator.laws b es e

pub returns-clause-view : goal.returns-clause-view
returns-clause-view g c = λ b es e h. view_of-next g.L.Validator.kind g.met.L.Validator.laws b es e h
