use Rattle.std.proofs.Common.{arith}
use Rattle.tool_changes.proofs.ClaimLemmas.{claims_more}
use Rattle.tool_changes.proofs.claim_lines.claim_lines.Goals as goal

pub loop-claim-preserved : goal.loop-claim-preserved
loop-claim-preserved c =
    claims_more c.loop-claim.claim-index c.args.claims.now _ _ _ (omega arith) c.claim-item.is c.loop-claim.invariant
    c.in_ok-append_claim.ensures
