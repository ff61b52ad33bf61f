use Rattle.std.specs.Str.Lines.{lines}
use Rattle.warg_audit.specs.Files.Answers.{output_data}
use Rattle.tool_changes.proofs.ManyAuditLemmas.{no_path, some_paths}
use Rattle.tool_changes.proofs.many_audits.Verdicts.add_paths.Goals as goal

pub returns-then-may_list-clause-added : goal.returns-then-may_list-clause-added
returns-then-may_list-clause-added g c =
    let it = c.args.self.now in
    some_paths it.is_json it.kind (g.V.Verifier.belongs it.verifier.now) (g.S.Store.files c.args.store.now) it.allows_empty c.args.list.now
    (lines c.args.paths.now) (output_data c.args.all.now) (output_data c.add_all.new.all) c.add_all.result c.if-may_list.ensures
    c.add_all.ensures.added

pub returns-else-may_list-clause-added : goal.returns-else-may_list-clause-added
returns-else-may_list-clause-added g c =
    let it = c.args.self.now in
    no_path it.is_json it.kind (g.V.Verifier.belongs it.verifier.now) (g.S.Store.files c.args.store.now) it.allows_empty c.args.list.now
    (lines c.args.paths.now) (output_data c.args.all.now) (output_data c.add_none.new.all) c.add_none.result c.if-may_list.ensures
    c.add_none.ensures
