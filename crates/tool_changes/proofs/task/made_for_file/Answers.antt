use Rattle.tool_changes.proofs.MadeLemmas.{made_read, made_unread}
use Rattle.tool_changes.proofs.task.made_for_file.Goals as goal

pub returns-in-Ok-clause-answered : goal.returns-in-Ok-clause-answered
returns-in-Ok-clause-answered g c = λ fault_name offence_name shown reports.
    made_read _ _ _ _ _ _ _ _ _ c.in-Ok.input.bytes.items c.make_answer.result c.in-Ok.ensures.bytes
    (c.make_answer.ensures fault_name offence_name shown reports)

pub returns-in-Err-clause-answered : goal.returns-in-Err-clause-answered
returns-in-Err-clause-answered g c = λ fault_name offence_name shown reports.
    made_unread _ _ _ _ _ _ _ _ _ c.in-Err.error c.in-Err.ensures.err
