use Rattle.std.proofs.lemmas.Result.{IfErr-weaker, IfOk-weaker}
use Rattle.tool_questions.proofs.ResumeLemmas.{no_lead_next, no_state_leads}
use Rattle.tool_questions.proofs.resume.resumed.Goals as goal

pub returns-in-Ok-clause-ok : goal.returns-in-Ok-clause-ok
returns-in-Ok-clause-ok g c = λ fault_name offence_name shown reports.
    IfOk-weaker c.state_after.result _ _
    (λ gone it. record { state = c.in-Ok.state; read = c.in-Ok.ensures.ok; leads = it })
    (c.state_after.ensures.ok fault_name offence_name shown reports)

pub returns-in-Ok-clause-err : goal.returns-in-Ok-clause-err
returns-in-Ok-clause-err g c = λ fault_name offence_name shown reports.
    IfErr-weaker c.state_after.result _ _
    (λ end told. no_lead_next _ _ _ _ _ _ c.in-Ok.state end c.in-Ok.ensures.ok told)
    (c.state_after.ensures.err fault_name offence_name shown reports)

pub returns-clause-err : goal.returns-clause-err
returns-clause-err g c = λ fault_name offence_name shown reports.
    no_state_leads _ _ _ _ _ _ c.in-Err.error c.in-Err.ensures.err
