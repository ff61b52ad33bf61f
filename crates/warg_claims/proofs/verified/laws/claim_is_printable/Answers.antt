use Rattle.warg_claims.proofs.VerifiedLemmas.BackLemmas.{claim_shown}
use Rattle.warg_claims.proofs.verified.laws.claim_is_printable.Goals as goal

pub returns : goal.returns
returns c = claim_shown
