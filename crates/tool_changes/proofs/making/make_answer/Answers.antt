use Rattle.tool_answers.proofs.LoadingLemmas.{error_prints}
use Rattle.tool_changes.proofs.MadeLemmas.{made_after}
use Rattle.warg_audit.specs.Files.RecordLines.{record_lines}
use Rattle.tool_changes.proofs.making.make_answer.Goals as goal

pub returns-in-Ok : goal.returns-in-Ok
returns-in-Ok g c = λ fault_name offence_name shown reports.
    let it = c.in-Ok.ensures.lawful fault_name offence_name shown reports in
    made_after _ _ _ _ _ _ _ (record_lines c.args.input.bytes.items) it.0 _ _ c.made.result it.1.0 it.1.1 it.1.2 (c.made.ensures fault_name offence_name shown reports)

pub returns-in-Err : goal.returns-in-Err
returns-in-Err g c = λ fault_name offence_name shown reports.
    error_prints _ (g.V.Verifier.belongs c.args.verifier.now) _ (record_lines c.args.input.bytes.items) c.in-Err.error
    (c.in-Err.ensures.err fault_name offence_name shown reports)
