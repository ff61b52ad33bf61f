use Rattle.warg_envelope.specs.Envelopes.{envelope_of}
use Rattle.warg_claims.specs.Verified.Claims.{is_claimed}
use Rattle.warg_claims.proofs.ClaimLaws.{judged-alike}
use Rattle.warg_claims.proofs.HeldClaims.{held-holds, holds-held}
use Rattle.warg_claims.proofs.laws.verified_as_held.Goals as goal

pub returns : goal.returns
returns g c = λ inputs claims held b own right whole. (
  judged-alike g.L.Validator.kind (envelope_of g.L.Record.Record.read) inputs claims (is_claimed held) b own (held-holds claims held b right),
  judged-alike g.L.Validator.kind (envelope_of g.L.Record.Record.read) inputs claims b (is_claimed held) own (holds-held claims held b whole),
)
