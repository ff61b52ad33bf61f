use Rattle.std.proofs.Common.{ℕ, List, filter, rules, subst, ◌∙◌}
use Rattle.std.proofs.lemmas.Iterator.Consumers.{YieldsList-end}
use Rattle.std.proofs.lemmas.Iterator.Splits.{YieldsList-from_lines}
use Rattle.warg_audit.specs.Files.Answers.{output_data}
use Rattle.tool_changes.specs.ManyAudits.{is_path, IsWithAll}
use Rattle.tool_changes.proofs.ManyAuditLemmas.{listed_more}
use Rattle.tool_changes.proofs.many_audits.Verdicts.add_all.Goals as goal

pub loop-line-preserved : goal.loop-line-preserved
loop-line-preserved g c =
    let it = c.args.self.now in
    record {
      said = listed_more it.is_json it.kind (g.V.Verifier.belongs it.verifier.now) (g.S.Store.files c.args.store.now) it.allows_empty
          c.loop-line.yielded c.in-Some.line (output_data c.args.all.now) (output_data c.loop-line.all) (output_data c.add_line.new.all)
          c.loop-line.invariant.said (rw c.loop-line.invariant.kept at c.in_ok-add_line.ensures.added);
      kept = c.in_ok-add_line.ensures.kept ∙ c.loop-line.invariant.kept;
    }

pub returns-clause-added : goal.returns-clause-added
returns-clause-added g c =
    let it = c.args.self.now in
    let end = YieldsList-end (YieldsList-from_lines c.args.paths.now (search rules)) c.loop-line.yielded _ c.loop-line.yielded_by _ _ c.in-None.is c.next.ensures.steps in
    let P : List (List ℕ) → Type 0 = λ lines. IsWithAll it.is_json it.kind (g.V.Verifier.belongs it.verifier.now) (g.S.Store.files c.args.store.now) it.allows_empty
    (filter is_path lines) (output_data c.args.all.now) (output_data c.loop-line.all) in
    subst P end.0 c.loop-line.invariant.said
