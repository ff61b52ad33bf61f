use Rattle.warg_audit.proofs.FilesLemmas.UnusableLemmas.{file_read, file_unread}
use Rattle.tool_questions.proofs.questions.resumed_head_from_files.Goals as goal

pub returns-in-Ok-clause-answered : goal.returns-in-Ok-clause-answered
returns-in-Ok-clause-answered g c = λ fault_name offence_name shown reports.
    file_read _ _ _ c.in-Ok.saved.bytes.items c.resumed_head_from_file.result c.in-Ok.ensures.bytes
    (rw c.in-Ok.ensures.kept at (c.resumed_head_from_file.ensures.answered fault_name offence_name shown reports))

pub returns-in-Err-clause-answered : goal.returns-in-Err-clause-answered
returns-in-Err-clause-answered g c = λ fault_name offence_name shown reports. file_unread _ _ _ c.in-Err.error c.in-Err.ensures.err
