use Rattle.tool_answers.proofs.PartingLemmas.{end_of_side}
use Rattle.tool_answers.proofs.side.side.Goals as goal

pub returns-in-Err-clause-err : goal.returns-in-Err-clause-err
returns-in-Err-clause-err g c = λ fault_name offence_name shown reports.
    end_of_side c.args.name.now c.in-Err.error c.side_error.result _ c.side_error.ensures
    (c.in-Err.ensures.err fault_name offence_name shown reports)
