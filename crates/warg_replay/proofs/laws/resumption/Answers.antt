use Rattle.warg_envelope.specs.Envelopes.{envelope_of}
use Rattle.warg_replay.proofs.LogLaws.{lawful-parts, first-parts}
use Rattle.warg_replay.proofs.laws.resumption.Goals as goal

pub returns-clause-lawful : goal.returns-clause-lawful
returns-clause-lawful g c = λ b ss ts. lawful-parts g.L.Validator.kind g.met.L.Validator.laws b (envelope_of g.L.Record.Record.read) ss ts

pub returns-clause-first : goal.returns-clause-first
returns-clause-first g c = λ b ss ts h i why first. first-parts g.L.Validator.kind g.met.L.Validator.laws b (envelope_of g.L.Record.Record.read) ss ts h i why first
