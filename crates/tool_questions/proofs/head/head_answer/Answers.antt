use Rattle.tool_answers.proofs.LoadingLemmas.{error_prints}
use Rattle.tool_answers.specs.Verdicts.{lawful}
use Rattle.tool_questions.proofs.HeadLemmas.{head_shown}
use Rattle.warg_audit.specs.Files.RecordLines.{record_lines}
use Rattle.tool_questions.proofs.head.head_answer.Goals as goal

pub returns-in_ok-last_answer-in-Ok : goal.returns-in_ok-last_answer-in-Ok
returns-in_ok-last_answer-in-Ok g c = λ fault_name offence_name shown reports.
    let it = c.in-Ok.ensures.lawful fault_name offence_name shown reports in
    lawful it.0 it.1.0
    (head_shown _ g.L.Validator.view g.L.HeadedLog.last it.0 c.in-Ok.state _ _ _ it.1.1 it.1.2 c.last.ensures c.in_ok-last_answer-in-Ok.ensures)

pub returns-in-Err : goal.returns-in-Err
returns-in-Err g c = λ fault_name offence_name shown reports.
    error_prints _ (g.V.Verifier.belongs c.args.verifier.now) _ (record_lines c.args.input.bytes.items) c.in-Err.error
    (c.in-Err.ensures.err fault_name offence_name shown reports)
