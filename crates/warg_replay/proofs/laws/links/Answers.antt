use Rattle.warg_replay.proofs.LogLaws.{head-last, prev-last}
use Rattle.warg_replay.proofs.laws.links.Goals as goal

pub returns-clause-head : goal.returns-clause-head
returns-clause-head g c = λ b es h. head-last g.L.Validator.kind g.met.L.Validator.laws b es h

pub returns-clause-link : goal.returns-clause-link
returns-clause-link g c = λ b es h i e at. prev-last g.L.Validator.kind g.met.L.Validator.laws b es h i e at
