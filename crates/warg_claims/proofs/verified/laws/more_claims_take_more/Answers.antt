use Rattle.std.proofs.lemmas.Map.Views.{Contains-from_any, list_any-from_Contains}
use Rattle.warg_claims.specs.Verified.Claims.{ClaimData}
use Rattle.warg_claims.specs.Verified.SameClaims.{same_claim_equiv}
use Rattle.warg_claims.proofs.VerifiedLemmas.SameLemmas.{same_claim-one}
use Rattle.warg_claims.proofs.verified.laws.more_claims_take_more.Goals as goal

pub returns : goal.returns
returns c = λ few many more key message signature taken.
    let claim : ClaimData = record { key = key; message = message; signature = signature } in
    list_any-from_Contains same_claim_equiv claim many (more claim (Contains-from_any same_claim-one claim few taken))
