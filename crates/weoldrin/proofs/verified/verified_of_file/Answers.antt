use Rattle.std.proofs.lemmas.Result.{IfOk-weaker}
use Rattle.std.specs.Str.Lines.{lines}
use Rattle.warg_claims.specs.Verified.Texts.{IsReadFrom}
use Rattle.tool_checkpoints.proofs.WordLemmas.{unsaid_as, unsaid_if}
use Rattle.weoldrin.specs.Requests.{SaysClaims}
use Rattle.weoldrin.proofs.verified.verified_of_file.Goals as goal

pub returns-in-Ok-clause-ok : goal.returns-in-Ok-clause-ok
returns-in-Ok-clause-ok c =
    IfOk-weaker c.verified_of.result _ _ (λ claims said. record { utf8 = rw c.as_slice.ensures.value at c.in-Ok.ensures.cases.1; said = said })
    (rw (c.in-Ok.ensures.cases.0, c.as_slice.ensures.value) at c.verified_of.ensures.ok)

pub returns-in-Ok-clause-err : goal.returns-in-Ok-clause-err
returns-in-Ok-clause-err c =
    let bytes = c.args.input.now.bytes.items in
    unsaid_if (IsReadFrom (lines bytes)) (SaysClaims bytes) c.verified_of.result
    (rw (c.in-Ok.ensures.cases.0, c.as_slice.ensures.value) at c.verified_of.ensures.err) (λ claims it. (claims, it.said))

pub returns-in-Err-clause-err : goal.returns-in-Err-clause-err
returns-in-Err-clause-err c =
    let bytes = c.args.input.now.bytes.items in
    unsaid_as (SaysClaims bytes) c.file_error.result c.file_error.ensures (λ claims it. (rw c.as_slice.ensures.value at c.in-Err.ensures.cases.0) it.utf8)
