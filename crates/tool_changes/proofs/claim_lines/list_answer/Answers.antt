use Rattle.std.proofs.Common.{map, string_bytes}
use Rattle.std.specs.Vec.{vec_items}
use Rattle.warg_protocol.specs.Logs.{cause_named_by, envelope_fault_of}
use Rattle.warg_audit.specs.Files.Answers.{output_data}
use Rattle.tool_changes.proofs.ClaimLemmas.{claim_list, cut_answers}
use Rattle.tool_changes.proofs.claim_lines.list_answer.Goals as goal

pub returns-in-None : goal.returns-in-None
returns-in-None g c =
    claim_list _ _ _ _ _ (output_data c.new.result) c.new.ensures c.claims-claims.ensures.claims
    (rw c.as_slice.ensures.value at c.in_ok-text.ensures) (rw c.in-None.is at c.claims-claims.ensures.end)

pub returns : goal.returns
returns g c =
    cut_answers _ _ (cause_named_by (envelope_fault_of g.L.Record.Record.fault_of) g.L.Validator.offence_of) c.in-Some.cause
    (map vec_items c.args.inputs.now) _ (string_bytes c.in_ok-text.text) c.cut_answer.result c.claims-claims.ensures.claims
    (rw c.as_slice.ensures.value at c.in_ok-text.ensures) (rw c.in-Some.is at c.claims-claims.ensures.end) c.cut_answer.ensures
