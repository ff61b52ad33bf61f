use Rattle.warg_replay.proofs.Tellings.{answers}
use Rattle.warg_replay.proofs.external.laws.answers_what_is_asked.Goals as goal

pub returns : goal.returns
returns g c = answers g.L.Validator.kind g.met.L.ExternallyVerified.asks_where_lawful
