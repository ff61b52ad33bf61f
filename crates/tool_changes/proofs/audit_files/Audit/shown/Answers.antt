use Rattle.std.specs.Option.{option_map}
use Rattle.warg_audit.specs.Files.RecordLines.{record_lines}
use Rattle.warg_audit.proofs.FilesLemmas.UnusableLemmas.{file_read, file_unread}
use Rattle.tool_changes.specs.Audits.{IsAuditOf}
use Rattle.tool_changes.proofs.audit_files.Audit.shown.Goals as goal

pub returns-then-self-clause-answered : goal.returns-then-self-clause-answered
returns-then-self-clause-answered g c = rw c.if-self.true c.in_ok-path_line.ensures.line

pub returns-in-Ok-clause-answered : goal.returns-in-Ok-clause-answered
returns-in-Ok-clause-answered g c =
    let it = c.args.self.now in
    rw c.if-self.false
    (file_read (g.S.Store.files c.args.store.now) c.args.path.now
    (λ bytes. IsAuditOf it.kind (g.V.Verifier.belongs it.verifier.now) it.demands
    (option_map (λ o. record_lines o.bytes.items) c.args.older) (record_lines bytes))
    c.in-Ok.input.bytes.items c.answer.result c.in-Ok.ensures.bytes c.answer.ensures)

pub returns-in-Err-clause-answered : goal.returns-in-Err-clause-answered
returns-in-Err-clause-answered g c = rw c.if-self.false (file_unread _ _ _ c.in-Err.error c.in-Err.ensures.err)
