use Rattle.warg_envelope.specs.Envelopes.{envelope_of}
use Rattle.warg_replay.proofs.LogLaws.{strings-accepted}
use Rattle.warg_replay.proofs.laws.strings_are_accepted.Goals as goal

pub returns : goal.returns
returns g c = λ b ss h. strings-accepted g.L.Validator.kind g.met.L.Validator.laws b (envelope_of g.L.Record.Record.read) ss h
