use Rattle.tool_changes.proofs.MadeLemmas.{text_made, text_unread}
use Rattle.tool_changes.proofs.making.made_for_text.Goals as goal

pub returns-in-Ok : goal.returns-in-Ok
returns-in-Ok g c = λ fault_name offence_name shown reports.
    text_made _ _ _ _ _ _ _ _ c.args.text.now c.in-Ok.key c.made_for_key.result c.in-Ok.ensures.ok
    (c.made_for_key.ensures fault_name offence_name shown reports)

pub returns-in-Err : goal.returns-in-Err
returns-in-Err g c = λ fault_name offence_name shown reports.
    text_unread _ _ _ _ _ _ _ _ c.args.text.now c.in-Err.error c.in-Err.ensures.err
