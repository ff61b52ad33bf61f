use Rattle.warg_envelope.specs.Envelopes.{envelope_of}
use Rattle.warg_claims.proofs.ClaimLaws.{run_error-first}
use Rattle.warg_claims.proofs.laws.run_error_comes_first.Goals as goal

pub returns : goal.returns
returns g c = λ inputs claims why own refused b holds. run_error-first g.L.Validator.kind (envelope_of g.L.Record.Record.read) inputs claims why own refused b holds
