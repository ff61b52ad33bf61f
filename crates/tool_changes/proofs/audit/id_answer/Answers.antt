use Rattle.std.proofs.Common.{sym, subst}
use Rattle.warg_audit.specs.Answers.{IsIdAnswer}
use Rattle.warg_audit.specs.Printouts.{OutputData}
use Rattle.warg_audit.specs.Files.RecordLines.{record_lines}
use Rattle.tool_changes.proofs.audit.id_answer.Goals as goal

pub returns : goal.returns
returns c =
    let P : OutputData → Type 0 = IsIdAnswer c.args.kind (record_lines c.args.input.bytes.items) in
    subst P (sym c.in_ok-output_of_reply.ensures) (rw (c.as_slice.ensures.value, c.in_ok-text.ensures) at c.in_ok-reply.ensures)
