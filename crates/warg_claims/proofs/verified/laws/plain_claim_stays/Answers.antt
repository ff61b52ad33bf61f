use Rattle.warg_claims.proofs.VerifiedLemmas.BackLemmas.{claim_plain}
use Rattle.warg_claims.proofs.verified.laws.plain_claim_stays.Goals as goal

pub returns : goal.returns
returns c = claim_plain
