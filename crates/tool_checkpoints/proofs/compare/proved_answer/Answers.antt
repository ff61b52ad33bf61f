use Rattle.tool_checkpoints.specs.Proofs.{IsLogProof}
use Rattle.tool_checkpoints.proofs.WordLemmas.{by_file, file_unsaid}
use Rattle.tool_checkpoints.proofs.compare.proved_answer.Goals as goal

pub returns-in_ok-checkpoints_line-in-Ok-clause-answered : goal.returns-in_ok-checkpoints_line-in-Ok-clause-answered
returns-in_ok-checkpoints_line-in-Ok-clause-answered g c =
    by_file _ _ IsLogProof _ c.in-Ok.proof c.in-Ok.ensures.ok _ c.in_ok-checkpoints_line-in-Ok.ensures

pub returns-in-Err-clause-answered : goal.returns-in-Err-clause-answered
returns-in-Err-clause-answered g c = file_unsaid _ _ IsLogProof _ c.in-Err.error c.in-Err.ensures.err
