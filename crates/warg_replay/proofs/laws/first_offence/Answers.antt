use Rattle.warg_envelope.specs.Envelopes.{envelope_of}
use Rattle.warg_replay.proofs.LogLaws.{first-searched}
use Rattle.warg_replay.proofs.laws.first_offence.Goals as goal

pub returns : goal.returns
returns g c = λ b ss o. first-searched g.L.Validator.kind g.met.L.Validator.laws b (envelope_of g.L.Record.Record.read) ss o
