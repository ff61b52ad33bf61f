use Rattle.tool_changes.proofs.MadeLemmas.{key_made, key_unsaid}
use Rattle.tool_changes.proofs.making.made_for_key.Goals as goal

pub returns-in-Ok : goal.returns-in-Ok
returns-in-Ok g c = λ fault_name offence_name shown reports.
    key_made _ _ _ _ _ _ _ _ c.args.key c.in-Ok.made.envelope.items c.in-Ok.made.message.items c.in-Ok.made.draft.items _ c.unsigned_next.result
    c.as_slice-entries.ensures.value c.in-Ok.ensures.ok (c.unsigned_next.ensures fault_name offence_name shown reports)

pub returns-in-Err : goal.returns-in-Err
returns-in-Err g c = λ fault_name offence_name shown reports.
    key_unsaid _ _ _ _ _ _ _ _ c.args.key _ c.in-Err.error c.make_error.result c.as_slice-entries.ensures.value c.make_error.ensures.memory
    c.in-Err.ensures.err c.make_error.ensures.unusable
