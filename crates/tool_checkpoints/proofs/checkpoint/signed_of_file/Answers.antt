use Rattle.std.proofs.lemmas.Result.{IfOk-weaker}
use Rattle.serde_json.specs.View.{view}
use Rattle.tool_checkpoints.specs.CheckpointAnswers.{IsSigned, Tells}
use Rattle.tool_checkpoints.proofs.SignedLemmas.{asked_said, said_by_asked, unsaid_json}
use Rattle.tool_checkpoints.proofs.WordLemmas.{unsaid_if}
use Rattle.tool_checkpoints.proofs.checkpoint.signed_of_file.Goals as goal

pub returns-in-Ok-clause-ok : goal.returns-in-Ok-clause-ok
returns-in-Ok-clause-ok c =
    let it = c.in-Ok.ensures.ok in
    let bytes = c.args.input.now.bytes.items in
    IfOk-weaker c.signed_of.result _ _
    (λ signed said. record { utf8 = it.0; value = it.1.whole; json = it.1.is; said = said_by_asked bytes (view c.in-Ok.value) it.1 signed said })
    c.signed_of.ensures.ok

pub returns-in-Ok-clause-err : goal.returns-in-Ok-clause-err
returns-in-Ok-clause-err c =
    let bytes = c.args.input.now.bytes.items in
    unsaid_if (Tells (view c.in-Ok.value)) (IsSigned bytes) c.signed_of.result
    c.signed_of.ensures.err (asked_said bytes (view c.in-Ok.value) c.in-Ok.ensures.ok.1)

pub returns-in-Err-clause-err : goal.returns-in-Err-clause-err
returns-in-Err-clause-err c = unsaid_json c.args.input.now.bytes.items c.in-Err.error c.in-Err.ensures.err
