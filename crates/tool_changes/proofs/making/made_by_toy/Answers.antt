use Rattle.tool_changes.proofs.MadeLemmas.{toy_made, toy_unsaid}
use Rattle.tool_changes.proofs.making.made_by_toy.Goals as goal

pub returns-in-Ok : goal.returns-in-Ok
returns-in-Ok g c = λ fault_name offence_name shown reports.
    toy_made _ _ _ _ _ _ _ _ c.args.name.now c.in-Ok.envelope.items _ c.signed_next.result c.as_slice-entries.ensures.value c.in-Ok.ensures.ok
    (c.signed_next.ensures fault_name offence_name shown reports)

pub returns-in-Err : goal.returns-in-Err
returns-in-Err g c = λ fault_name offence_name shown reports.
    toy_unsaid _ _ _ _ _ _ _ _ c.args.name.now _ c.in-Err.error c.make_error.result c.as_slice-entries.ensures.value c.make_error.ensures.memory
    c.in-Err.ensures.err c.make_error.ensures.unusable
