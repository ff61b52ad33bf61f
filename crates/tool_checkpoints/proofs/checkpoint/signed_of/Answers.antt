use Rattle.std.proofs.Common.{◌≡◌}
use Rattle.serde_json.specs.View.{view}
use Rattle.warg_crypto.specs.declared.json.error.JsonError.TheVariants.{OutOfMemory}
use Rattle.tool_checkpoints.specs.CheckpointAnswers.{Tells}
use Rattle.tool_checkpoints.proofs.SignedLemmas.{no_signed}
use Rattle.tool_checkpoints.proofs.WordLemmas.{unsaid_unless}
use Rattle.tool_checkpoints.proofs.checkpoint.signed_of.Goals as goal

pub returns-in-Err-clause-err : goal.returns-in-Err-clause-err
returns-in-Err-clause-err c =
    let value = view c.args.value.now in
    unsaid_unless (Tells value) (c.in-Err.fault ≡ OutOfMemory) c.signed_error.result c.signed_error.ensures.unusable
    c.signed_error.ensures.memory (no_signed value (c.in-Err.fault ≡ OutOfMemory) c.in-Err.fault c.in-Err.ensures)
