use Rattle.std.proofs.Common.{map}
use Rattle.std.specs.Vec.{vec_items}
use Rattle.warg_audit.specs.Files.Answers.{output_data}
use Rattle.tool_questions.proofs.ShowLemmas.ShownLemmas.{bad_shown, spelled_shown}
use Rattle.warg_audit.specs.Files.RecordLines.{record_lines}
use Rattle.tool_questions.proofs.show.show.show_answer.Goals as goal

pub returns-in_ok-inputs_answer-in-Ok : goal.returns-in_ok-inputs_answer-in-Ok
returns-in_ok-inputs_answer-in-Ok g c = λ fault_name offence_name shown reports.
    spelled_shown _ (g.V.Verifier.belongs c.args.verifier.now) g.L.ToolLog.says_words g.L.ToolLog.shows _ (record_lines c.args.input.bytes.items)
    (map vec_items c.in-Ok.inputs.items) (output_data c.in_ok-inputs_answer-in-Ok.field-0) c.in-Ok.ensures.ok
    (rw c.as_slice.ensures.value at (c.in_ok-inputs_answer-in-Ok.ensures fault_name offence_name shown reports))

pub returns-in-Err : goal.returns-in-Err
returns-in-Err g c = λ fault_name offence_name shown reports.
    bad_shown _ (g.V.Verifier.belongs c.args.verifier.now) g.L.ToolLog.says_words g.L.ToolLog.shows _ (record_lines c.args.input.bytes.items)
    c.in-Err.error c.in-Err.ensures.err
