use Rattle.std.proofs.Common.{Some}
use Rattle.warg_audit.specs.Files.RecordLines.{record_lines}
use Rattle.warg_audit.proofs.FilesLemmas.UnusableLemmas.{file_read, file_unread}
use Rattle.tool_changes.specs.Audits.{IsAuditOf}
use Rattle.tool_changes.specs.ManyAudits.{IsShownBy}
use Rattle.tool_changes.proofs.audit_files.Audit.beside_copy.Goals as goal

pub returns-in-Ok-clause-answered : goal.returns-in-Ok-clause-answered
returns-in-Ok-clause-answered g c =
    let it = c.args.self.now in
    file_read (g.S.Store.files c.args.store.now) c.args.older.now
    (λ bytes. IsShownBy it.is_json (g.S.Store.files c.args.store.now)
    (IsAuditOf it.kind (g.V.Verifier.belongs it.verifier.now) it.demands (Some (record_lines bytes))) c.args.path.now it.shows_path)
    c.in-Ok.older.bytes.items c.shown.result c.in-Ok.ensures.bytes (rw c.in-Ok.ensures.kept at c.shown.ensures.answered)

pub returns-in-Err-clause-answered : goal.returns-in-Err-clause-answered
returns-in-Err-clause-answered g c = file_unread _ _ _ c.in-Err.error c.in-Err.ensures.err
