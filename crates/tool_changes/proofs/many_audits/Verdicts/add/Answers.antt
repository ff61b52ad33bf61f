use Rattle.std.proofs.Common.{◌∙◌, string_bytes}
use Rattle.warg_audit.specs.Files.Answers.{output_data}
use Rattle.tool_changes.proofs.ManyAuditLemmas.{with_line}
use Rattle.tool_changes.proofs.many_audits.Verdicts.add.Goals as goal

pub returns-clause-added : goal.returns-clause-added
returns-clause-added g c =
    let it = c.args.self.now in
    with_line it.is_json it.kind (g.V.Verifier.belongs it.verifier.now) (g.S.Store.files c.args.store.now) it.allows_empty c.args.path.now
    (output_data c.args.all.now) (output_data c.in_ok-answer.answer) (string_bytes c.push_str.new.self) c.as_str.result.now
    c.max-all.result c.in_ok-answer.ensures.verdict (c.as_str.ensures.value ∙ c.in_ok-line.ensures) c.in_ok-push_str.ensures.bytes
    c.max-all.ensures
