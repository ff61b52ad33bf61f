use Rattle.tool_questions.proofs.ResumeLemmas.{next_resumed, none_resumed}
use Rattle.tool_questions.proofs.resume.resume_answer.Goals as goal

pub returns-in-Ok : goal.returns-in-Ok
returns-in-Ok g c = λ fault_name offence_name shown reports.
    next_resumed _ _ _ _ _ _ _ c.in-Ok.state _ c.json_answer.result (c.in-Ok.ensures.ok fault_name offence_name shown reports)
    c.json_answer.ensures

pub returns-in-Err : goal.returns-in-Err
returns-in-Err g c = λ fault_name offence_name shown reports.
    none_resumed _ _ _ _ _ _ _ c.in-Err.error (c.in-Err.ensures.err fault_name offence_name shown reports)
