use Rattle.std.proofs.Common.{[], arith, ◌∙◌}
use Rattle.warg_audit.specs.Files.Answers.{output_data}
use Rattle.tool_changes.proofs.ManyAuditLemmas.{words_more}
use Rattle.tool_changes.proofs.many_audits.audits_answer.Goals as goal

pub loop-log-preserved : goal.loop-log-preserved
loop-log-preserved g c = record {
  said = words_more c.args.is_json c.args.kind (g.V.Verifier.belongs c.args.verifier.now) (g.S.Store.files c.args.store.now) c.args.allows_empty
      c.loop-log.log-index c.args.logs.now _ (record { text = []; status = 0 }) (output_data c.loop-log.all)
      (output_data c.add_named.new.all) (omega arith) c.loop-log.invariant.said
      (rw c.loop-log.invariant.kept at c.in_ok-add_named.ensures.added);
  kept = c.in_ok-add_named.ensures.kept ∙ c.loop-log.invariant.kept;
}
