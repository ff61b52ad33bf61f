use Rattle.warg_audit.proofs.FilesLemmas.UnusableLemmas.{file_read, file_unread}
use Rattle.tool_questions.proofs.questions.head_of_file.Goals as goal

pub returns-in-Ok-clause-answered : goal.returns-in-Ok-clause-answered
returns-in-Ok-clause-answered g c = λ fault_name offence_name shown reports.
    file_read _ _ _ c.in-Ok.input.bytes.items c.head_answer.result c.in-Ok.ensures.bytes
    (c.head_answer.ensures fault_name offence_name shown reports)

pub returns-in-Err-clause-answered : goal.returns-in-Err-clause-answered
returns-in-Err-clause-answered g c = λ fault_name offence_name shown reports. file_unread _ _ _ c.in-Err.error c.in-Err.ensures.err
