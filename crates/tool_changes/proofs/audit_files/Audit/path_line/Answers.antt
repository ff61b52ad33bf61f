use Rattle.warg_audit.specs.Files.Answers.{output_data}
use Rattle.tool_changes.proofs.ManyAuditLemmas.{path_line_is}
use Rattle.tool_changes.proofs.audit_files.Audit.path_line.Goals as goal

pub returns-clause-line : goal.returns-clause-line
returns-clause-line g c =
    path_line_is c.args.self.now.is_json (g.S.Store.files c.args.store.now) _ c.args.path.now (output_data c.in_ok-answer.answer) _
    c.in_ok-answer.ensures.verdict c.in_ok-line.ensures
