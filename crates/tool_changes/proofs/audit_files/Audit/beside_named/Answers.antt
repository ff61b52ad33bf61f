use Rattle.tool_changes.specs.Audits.{IsAuditOf}
use Rattle.tool_changes.specs.ManyAudits.{IsShownBy}
use Rattle.tool_changes.proofs.AuditFileLemmas.{by_named, by_none}
use Rattle.tool_changes.proofs.audit_files.Audit.beside_named.Goals as goal

pub returns-in-Some-clause-answered : goal.returns-in-Some-clause-answered
returns-in-Some-clause-answered g c =
    let it = c.args.self.now in
    let files = g.S.Store.files c.args.store.now in
    by_named files it.demands.older
    (λ older. IsShownBy it.is_json files (IsAuditOf it.kind (g.V.Verifier.belongs it.verifier.now) it.demands older) c.args.path.now it.shows_path)
    c.beside_copy.result c.in-Some.older c.in-Some.is c.beside_copy.ensures.answered

pub returns-in-None-clause-answered : goal.returns-in-None-clause-answered
returns-in-None-clause-answered g c =
    let it = c.args.self.now in
    let files = g.S.Store.files c.args.store.now in
    by_none files it.demands.older
    (λ older. IsShownBy it.is_json files (IsAuditOf it.kind (g.V.Verifier.belongs it.verifier.now) it.demands older) c.args.path.now it.shows_path)
    c.shown.result c.in-None.is c.shown.ensures.answered
