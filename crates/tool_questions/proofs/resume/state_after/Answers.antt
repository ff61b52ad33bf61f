use Rattle.tool_questions.proofs.ResumeLemmas.{bad_line_leads}
use Rattle.tool_questions.proofs.resume.state_after.Goals as goal

pub returns-in-Ok-clause-ok : goal.returns-in-Ok-clause-ok
returns-in-Ok-clause-ok g c = λ fault_name offence_name shown reports.
    c.counted_after.ensures.ok fault_name offence_name shown reports _
    (rw (← c.as_slice.ensures.value) at c.in-Ok.ensures.ok)

pub returns-in-Ok-clause-err : goal.returns-in-Ok-clause-err
returns-in-Ok-clause-err g c = λ fault_name offence_name shown reports.
    c.counted_after.ensures.err fault_name offence_name shown reports _
    (rw (← c.as_slice.ensures.value) at c.in-Ok.ensures.ok)

pub returns-in-Err-clause-err : goal.returns-in-Err-clause-err
returns-in-Err-clause-err g c = λ fault_name offence_name shown reports.
    bad_line_leads _ _ _ c.args.state _ c.in-Err.error c.in-Err.ensures.err
