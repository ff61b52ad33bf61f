use Rattle.std.proofs.lemmas.Result.{IfOk-weaker}
use Rattle.std.specs.Option.{option_map}
use Rattle.warg_audit.specs.Files.Answers.{output_data}
use Rattle.warg_audit.specs.Files.RecordLines.{record_lines}
use Rattle.tool_changes.specs.Audits.{IsAuditOf}
use Rattle.tool_changes.proofs.ManyAuditLemmas.{whole_verdict_read, whole_verdict_unread}
use Rattle.tool_changes.proofs.audit_files.Audit.verdict.Goals as goal

pub returns-in-Ok-clause-verdict : goal.returns-in-Ok-clause-verdict
returns-in-Ok-clause-verdict g c =
    let it = c.args.self.now in
    whole_verdict_read
    (IsAuditOf it.kind (g.V.Verifier.belongs it.verifier.now) it.demands (option_map (λ o. record_lines o.bytes.items) c.args.older))
    (g.S.Store.files c.args.store.now) c.args.path.now c.in-Ok.bytes.items c.answer.result
    c.into_output.result c.into_output.ensures c.in-Ok.ensures.bytes c.answer.ensures

pub returns-clause-verdict : goal.returns-clause-verdict
returns-clause-verdict g c =
    let it = c.args.self.now in
    IfOk-weaker c.fixed.result _ _
    (λ answer is. whole_verdict_unread
    (IsAuditOf it.kind (g.V.Verifier.belongs it.verifier.now) it.demands (option_map (λ o. record_lines o.bytes.items) c.args.older))
    (g.S.Store.files c.args.store.now) c.args.path.now
    c.in-Err.fault (output_data answer) c.text.result.now c.status.result c.in-Err.ensures.missing is c.text.ensures c.status.ensures)
    c.fixed.ensures
