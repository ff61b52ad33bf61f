use Rattle.std.proofs.Common.{List, subst}
use Rattle.warg_protocol.specs.Logs.{EnvelopeData}
use Rattle.warg_audit.specs.Files.Answers.{output_data}
use Rattle.tool_answers.proofs.LoadingLemmas.{error_prints}
use Rattle.warg_audit.specs.Files.RecordLines.{record_lines}
use Rattle.tool_answers.specs.Verdicts.{lawful}
use Rattle.tool_questions.specs.Questions.{IsAskedChain}
use Rattle.tool_questions.proofs.chain.chain_answer.Goals as goal

pub returns-in_ok-asked_chain-in-Ok : goal.returns-in_ok-asked_chain-in-Ok
returns-in_ok-asked_chain-in-Ok g c = λ fault_name offence_name shown reports.
    let it = c.in-Ok.ensures.lawful fault_name offence_name shown reports in
    let printed = output_data c.in_ok-asked_chain-in-Ok.field-0 in
    let ByRecords : List EnvelopeData → Type 0 =
    λ es. IsAskedChain g.L.ToolLog.says_words g.L.Validator.view g.L.ToolLog.has_key g.L.Validator.kind.view_of g.L.Validator.effects es c.args.word.now
    c.args.permission printed in
    lawful it.0 it.1.0 (subst ByRecords it.1.1 c.in_ok-asked_chain-in-Ok.ensures)

pub returns-in-Err : goal.returns-in-Err
returns-in-Err g c = λ fault_name offence_name shown reports.
    error_prints _ (g.V.Verifier.belongs c.args.verifier.now) _ (record_lines c.args.input.bytes.items) c.in-Err.error
    (c.in-Err.ensures.err fault_name offence_name shown reports)
