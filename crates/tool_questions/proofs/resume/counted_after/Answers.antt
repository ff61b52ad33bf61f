use Rattle.tool_questions.proofs.resume.counted_after.Goals as goal

pub returns-in-Ok-clause-ok : goal.returns-in-Ok-clause-ok
returns-in-Ok-clause-ok g c = λ fault_name offence_name shown reports lines spelled.
    c.in-Ok.ensures.ok fault_name offence_name shown reports lines spelled

pub returns-in-Err-clause-err : goal.returns-in-Err-clause-err
returns-in-Err-clause-err g c = λ fault_name offence_name shown reports lines spelled.
    c.in-Err.ensures.err fault_name offence_name shown reports lines spelled
