use Rattle.std.proofs.lemmas.Map.Views.{Contains-from_any, list_any-from_Contains}
use Rattle.warg_claims.specs.Verified.SameClaims.{same_claim_equiv}
use Rattle.warg_claims.proofs.VerifiedLemmas.SameLemmas.{same_claim-one}
use Rattle.warg_claims.proofs.verified.laws.taken_is_claimed.Goals as goal

pub returns : goal.returns
returns c = λ claims key message signature. (
  Contains-from_any same_claim-one (record { key = key; message = message; signature = signature }) claims,
  list_any-from_Contains same_claim_equiv (record { key = key; message = message; signature = signature }) claims,
)
