use Rattle.warg_audit.specs.Files.Answers.{output_data}
use Rattle.tool_changes.proofs.ClaimLemmas.{bad_line_answers, list_answers}
use Rattle.tool_changes.proofs.claim_lines.claims_answer.Goals as goal

pub returns-in-Ok-list_answer : goal.returns-in-Ok-list_answer
returns-in-Ok-list_answer g c =
    list_answers _ _ c.args.limit _ _ (output_data c.in-Ok-list_answer.answer) (output_data c.in_ok-within-in-Ok-list_answer.field-0) c.in-Ok.ensures.ok
    (rw c.as_slice.ensures.value at c.in-Ok-list_answer.ensures) c.in_ok-within-in-Ok-list_answer.ensures

pub returns : goal.returns
returns g c = bad_line_answers _ _ c.args.limit _ c.in-Err.error c.in-Err.ensures.err
