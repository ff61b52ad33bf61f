use Rattle.tool_checkpoints.specs.CheckpointAnswers.{IsSigned}
use Rattle.tool_checkpoints.proofs.WordLemmas.{file_said, file_unsaid}
use Rattle.tool_checkpoints.proofs.checkpoint.signature_answer.Goals as goal

pub returns-in-Ok-clause-answered : goal.returns-in-Ok-clause-answered
returns-in-Ok-clause-answered g c =
    file_said _ _ IsSigned _ c.in-Ok.signed c.verdict_in_file.result c.in-Ok.ensures.ok (rw c.in-Ok.ensures.kept at c.verdict_in_file.ensures.answered)

pub returns-in-Err-clause-answered : goal.returns-in-Err-clause-answered
returns-in-Err-clause-answered g c = file_unsaid _ _ IsSigned _ c.in-Err.error c.in-Err.ensures.err
