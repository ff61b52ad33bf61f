use Rattle.tool_changes.proofs.MadeLemmas.{made_by}
use Rattle.tool_changes.proofs.making.made.Goals as goal

pub returns-in-Toy : goal.returns-in-Toy
returns-in-Toy g c = λ fault_name offence_name shown reports.
    made_by _ _ _ _ _ c.args.draft.now _ _ _ c.made_by_toy.result c.in-Toy.is (c.made_by_toy.ensures fault_name offence_name shown reports)

pub returns-in-KeyText : goal.returns-in-KeyText
returns-in-KeyText g c = λ fault_name offence_name shown reports.
    made_by _ _ _ _ _ c.args.draft.now _ _ _ c.made_for_text.result c.in-KeyText.is (c.made_for_text.ensures fault_name offence_name shown reports)
