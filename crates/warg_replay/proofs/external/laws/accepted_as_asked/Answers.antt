use Rattle.warg_replay.proofs.Tellings.{accepted-asked}
use Rattle.warg_replay.proofs.external.laws.accepted_as_asked.Goals as goal

pub returns : goal.returns
returns g c = accepted-asked g.L.Validator.kind g.met.L.ExternallyVerified.asks_where_lawful
