use Rattle.std.proofs.Common.{sym}
use Rattle.warg_audit.specs.Files.Answers.{output_data}
use Rattle.tool_changes.proofs.ManyAuditLemmas.{no_line, on_ok_to, one_line}
use Rattle.tool_changes.proofs.many_audits.Verdicts.add_line.Goals as goal

pub returns-then-is_empty-clause-added : goal.returns-then-is_empty-clause-added
returns-then-is_empty-clause-added g c =
    let it = c.args.self.now in
    no_line it.is_json it.kind (g.V.Verifier.belongs it.verifier.now) (g.S.Store.files c.args.store.now) it.allows_empty c.args.line.now
    (output_data c.args.all.now) (sym c.if-is_empty.ensures)

pub returns-else-is_empty-clause-added : goal.returns-else-is_empty-clause-added
returns-else-is_empty-clause-added g c =
    let it = c.args.self.now in
    on_ok_to (one_line it.is_json it.kind (g.V.Verifier.belongs it.verifier.now) (g.S.Store.files c.args.store.now) it.allows_empty c.args.line.now
    (output_data c.args.all.now) (output_data c.add.new.all) (sym c.if-is_empty.ensures)) c.add.result c.add.ensures.added
