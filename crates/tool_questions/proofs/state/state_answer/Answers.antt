use Rattle.tool_questions.proofs.ResumeLemmas.{no_state_prints, state_prints}
use Rattle.tool_questions.proofs.state.state_answer.Goals as goal

pub returns-in-Ok : goal.returns-in-Ok
returns-in-Ok g c = λ fault_name offence_name shown reports.
    let judged = c.in-Ok.ensures.lawful fault_name offence_name shown reports in
    state_prints _ _ _ _ _ judged.0 c.in-Ok.state c.json_answer.result judged.1.0 judged.1.1 c.json_answer.ensures

pub returns-in-Err : goal.returns-in-Err
returns-in-Err g c = λ fault_name offence_name shown reports.
    no_state_prints _ _ _ _ _ c.in-Err.error (c.in-Err.ensures.err fault_name offence_name shown reports)
