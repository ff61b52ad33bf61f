use Rattle.tool_checkpoints.proofs.WordLemmas.{in_bytes, unread_bytes, unsaid_bytes}
use Rattle.tool_checkpoints.specs.CheckpointAnswers.{IsSigned}
use Rattle.tool_checkpoints.proofs.checkpoint.read_signed.Goals as goal

pub returns-in-Ok-clause-ok : goal.returns-in-Ok-clause-ok
returns-in-Ok-clause-ok g c =
    in_bytes _ _ IsSigned c.in-Ok.input.bytes.items c.signed_of_file.result c.in-Ok.ensures.bytes c.signed_of_file.ensures.ok

pub returns-in-Ok-clause-err : goal.returns-in-Ok-clause-err
returns-in-Ok-clause-err g c =
    unsaid_bytes _ _ IsSigned c.in-Ok.input.bytes.items c.signed_of_file.result c.in-Ok.ensures.bytes c.signed_of_file.ensures.err

pub returns-in-Err-clause-err : goal.returns-in-Err-clause-err
returns-in-Err-clause-err g c = unread_bytes _ _ IsSigned c.in-Err.error c.in-Err.ensures.err
