use Rattle.warg_audit.proofs.FilesLemmas.UnusableLemmas.{file_read, file_unread}
use Rattle.tool_checkpoints.proofs.checkpoint.verdict_in_file.Goals as goal

pub returns-in-Ok-clause-answered : goal.returns-in-Ok-clause-answered
returns-in-Ok-clause-answered g c = file_read _ _ _ c.in-Ok.input.bytes.items c.log_verdict.result c.in-Ok.ensures.bytes c.log_verdict.ensures

pub returns-in-Err-clause-answered : goal.returns-in-Err-clause-answered
returns-in-Err-clause-answered g c = file_unread _ _ _ c.in-Err.error c.in-Err.ensures.err
