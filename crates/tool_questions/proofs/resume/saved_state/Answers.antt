use Rattle.tool_questions.proofs.ResumeLemmas.{no_state_error}
use Rattle.tool_questions.proofs.resume.saved_state.Goals as goal

pub returns-in-Ok-clause-ok : goal.returns-in-Ok-clause-ok
returns-in-Ok-clause-ok g c = rw c.as_slice.ensures.value at c.in-Ok.ensures

pub returns-in-Err-clause-err : goal.returns-in-Err-clause-err
returns-in-Err-clause-err g c =
    no_state_error _ c.in-Err.fault c.state_error.result (rw c.as_slice.ensures.value at c.in-Err.ensures)
    c.state_error.ensures.told c.state_error.ensures.memory
