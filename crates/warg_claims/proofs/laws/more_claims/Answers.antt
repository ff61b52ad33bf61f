use Rattle.warg_envelope.specs.Envelopes.{envelope_of}
use Rattle.warg_claims.specs.Verified.Claims.{is_claimed}
use Rattle.warg_claims.proofs.ClaimLaws.{inputs-within}
use Rattle.warg_claims.proofs.HeldClaims.{claimed-within}
use Rattle.warg_claims.proofs.laws.more_claims.Goals as goal

pub returns-clause-accepted : goal.returns-clause-accepted
returns-clause-accepted g c = λ few many more es h i e at.
    g.met.L.Validator.laws.more_signatures (is_claimed few) (is_claimed many) (claimed-within few many more) _ e (h i e at)

pub returns-clause-inputs : goal.returns-clause-inputs
returns-clause-inputs g c = λ few many more ss.
    inputs-within g.L.Validator.kind (envelope_of g.L.Record.Record.read) g.met.L.Validator.laws (is_claimed few) (is_claimed many) (claimed-within few many more) ss
