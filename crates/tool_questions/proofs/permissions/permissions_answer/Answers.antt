use Rattle.tool_answers.proofs.LoadingLemmas.{error_prints}
use Rattle.warg_audit.specs.Files.RecordLines.{record_lines}
use Rattle.tool_answers.specs.Verdicts.{lawful}
use Rattle.tool_questions.proofs.permissions.permissions_answer.Goals as goal

pub returns-in_ok-asked_permissions-in-Ok : goal.returns-in_ok-asked_permissions-in-Ok
returns-in_ok-asked_permissions-in-Ok g c = λ fault_name offence_name shown reports.
    let it = c.in-Ok.ensures.lawful fault_name offence_name shown reports in
    lawful it.0 it.1.0 (record { state = c.in-Ok.state; stands = it.1.1; told = c.in_ok-asked_permissions-in-Ok.ensures })

pub returns-in-Err : goal.returns-in-Err
returns-in-Err g c = λ fault_name offence_name shown reports.
    error_prints _ (g.V.Verifier.belongs c.args.verifier.now) _ (record_lines c.args.input.bytes.items) c.in-Err.error
    (c.in-Err.ensures.err fault_name offence_name shown reports)
