use Rattle.std.proofs.Common.{sym}
use Rattle.std.proofs.lemmas.List.{length-map}
use Rattle.std.specs.Vec.{vec_items}
use Rattle.tool_questions.proofs.ResumeLemmas.{run_error_leads, state_leads}
use Rattle.tool_questions.proofs.resume.state_after_inputs.Goals as goal

pub returns-in-Ok-clause-ok : goal.returns-in-Ok-clause-ok
returns-in-Ok-clause-ok g c = λ fault_name offence_name shown reports lines spelled.
    let ran = c.in-Ok.ensures.from_view in
    state_leads _ _ _ c.args.state c.in-Ok.next _ _ _ spelled ran.0 ran.1 (sym (length-map c.args.inputs.now vec_items))

pub returns-in-Err-clause-err : goal.returns-in-Err-clause-err
returns-in-Err-clause-err g c = λ fault_name offence_name shown reports lines spelled.
    run_error_leads _ _ _ c.args.state _ _ c.refused.result spelled
    (c.refused.ensures fault_name offence_name shown reports (g.V.Verifier.belongs c.args.verifier.now) _ _ c.in-Err.ensures.from_view)
