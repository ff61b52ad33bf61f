use Rattle.warg_envelope.specs.Envelopes.{envelope_of}
use Rattle.warg_claims.proofs.ClaimLaws.{claims-decide}
use Rattle.warg_claims.proofs.laws.claims_decide.Goals as goal

pub returns : goal.returns
returns g c = λ inputs claims own b. claims-decide g.L.Validator.kind (envelope_of g.L.Record.Record.read) inputs claims own b
