use Rattle.warg_envelope.specs.Envelopes.{envelope_of}
use Rattle.warg_replay.proofs.OutcomeLaws.{whole-accepted}
use Rattle.warg_replay.proofs.laws.two_verifiers.Goals as goal

pub returns : goal.returns
returns g c = λ d b es ss lawful h. whole-accepted g.L.Validator.kind b (envelope_of g.L.Record.Record.read) g.met.L.Validator.laws d es lawful ss h
