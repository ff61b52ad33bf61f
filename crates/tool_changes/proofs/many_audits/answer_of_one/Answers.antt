use Rattle.std.proofs.Common.{None}
use Rattle.std.proofs.lemmas.Result.{IfOk-weaker}
use Rattle.warg_audit.specs.Files.Answers.{output_data}
use Rattle.tool_changes.specs.Audits.{IsAuditOf, records_alone}
use Rattle.tool_changes.proofs.ManyAuditLemmas.{verdict_read, verdict_unread}
use Rattle.tool_changes.proofs.many_audits.answer_of_one.Goals as goal

pub returns-in-Ok-clause-verdict : goal.returns-in-Ok-clause-verdict
returns-in-Ok-clause-verdict g c =
    let P = IsAuditOf c.args.kind (g.V.Verifier.belongs c.args.verifier.now) (records_alone c.args.allows_empty) None in
    verdict_read P (g.S.Store.files c.args.store.now) c.args.path.now c.in-Ok.bytes.items c.first_of_audit.result
    c.into_output.result c.into_output.ensures c.in-Ok.ensures.bytes c.first_of_audit.ensures

pub returns-in-Err-clause-verdict : goal.returns-in-Err-clause-verdict
returns-in-Err-clause-verdict g c =
    let P = IsAuditOf c.args.kind (g.V.Verifier.belongs c.args.verifier.now) (records_alone c.args.allows_empty) None in
    IfOk-weaker c.fixed.result _ _
    (λ answer is. verdict_unread P (g.S.Store.files c.args.store.now) c.args.path.now
    c.in-Err.fault (output_data answer) c.text.result.now c.status.result c.in-Err.ensures.missing is c.text.ensures c.status.ensures)
    c.fixed.ensures
