use Rattle.std.proofs.Common.{◌≡◌}
use Rattle.std.specs.Str.Lines.{lines}
use Rattle.warg_claims.specs.Verified.Texts.{IsReadFrom}
use Rattle.warg_claims.specs.declared.verified.error.ClaimParseError.TheVariants.{OutOfMemory}
use Rattle.tool_checkpoints.proofs.WordLemmas.{unsaid_unless}
use Rattle.weoldrin.proofs.RequestLemmas.{no_claims}
use Rattle.weoldrin.proofs.verified.verified_of.Goals as goal

pub returns-in-Err-clause-err : goal.returns-in-Err-clause-err
returns-in-Err-clause-err c =
    let memory : Type 0 = c.in-Err.error.fault ≡ OutOfMemory in
    unsaid_unless (IsReadFrom (lines c.args.text.now)) memory c.claim_error.result c.claim_error.ensures.unusable c.claim_error.ensures.memory
    (no_claims memory (lines c.args.text.now) c.in-Err.error.line c.in-Err.error.fault c.in-Err.ensures.err)
