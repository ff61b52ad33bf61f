use Rattle.warg_claims.proofs.VerifiedLemmas.BackLemmas.{claim_of-claim_text}
use Rattle.warg_claims.proofs.verified.laws.claim_reads_back.Goals as goal

pub returns : goal.returns
returns c = claim_of-claim_text
