use Rattle.tool_changes.proofs.AuditFileLemmas.{said, unsaid}
use Rattle.tool_changes.proofs.audit_files.Audit.of_file.Goals as goal

pub returns-in-Ok-clause-answered : goal.returns-in-Ok-clause-answered
returns-in-Ok-clause-answered g c =
    let it = c.args.self.now in
    said it.is_json it.kind (g.V.Verifier.belongs it.verifier.now) (g.S.Store.files c.args.store.now) it.demands it.shows_path c.args.path.now
    c.beside_named.result c.in-Ok.ensures.said c.beside_named.ensures.answered

pub returns-in-Err-clause-answered : goal.returns-in-Err-clause-answered
returns-in-Err-clause-answered g c =
    let it = c.args.self.now in
    unsaid it.is_json it.kind (g.V.Verifier.belongs it.verifier.now) (g.S.Store.files c.args.store.now) it.demands it.shows_path c.args.path.now
    c.in-Err.error c.in-Err.ensures.err
