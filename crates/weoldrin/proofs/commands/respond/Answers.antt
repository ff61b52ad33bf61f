use Rattle.std.proofs.Common.{sym}
use Rattle.std.proofs.lemmas.Result.{IfOk-weaker}
use Rattle.warg_audit.specs.Files.Answers.{output_data}
use Rattle.weoldrin.specs.Looks.{layout_of}
use Rattle.weoldrin.specs.Requests.{IsRequestAnswer}
use Rattle.warg_audit.proofs.FilesLemmas.UnusableLemmas.{settled_is}
use Rattle.weoldrin.proofs.RequestLemmas.{rendered_many, rendered_one}
use Rattle.weoldrin.proofs.commands.respond.Goals as goal

pub returns-then-is_many-clause-answered : goal.returns-then-is_many-clause-answered
returns-then-is_many-clause-answered g c =
    let it = c.args.invocation.now in
    let belongs = g.V.Verifier.belongs c.args.verifier.now in
    let P = IsRequestAnswer it.json belongs (g.S.Store.files c.args.store.now) (g.S.Store.files c.request_answer.new.store) it.request in
    rendered_many it.json it.command.now (layout_of it.request c.args.look.now) P _ (output_data c.in_ok-answer.answer) _ (sym c.if-is_many.ensures)
    (settled_is P c.request_answer.result _ c.in_ok-answer.ensures c.request_answer.ensures.answered)

pub returns-else-is_many-clause-answered : goal.returns-else-is_many-clause-answered
returns-else-is_many-clause-answered g c =
    let it = c.args.invocation.now in
    let belongs = g.V.Verifier.belongs c.args.verifier.now in
    let P = IsRequestAnswer it.json belongs (g.S.Store.files c.args.store.now) (g.S.Store.files c.request_answer.new.store) it.request in
    IfOk-weaker c.render_in.result _ _
    (λ answer is. rendered_one it.json it.command.now (layout_of it.request c.args.look.now) P _ (output_data answer) _ (sym c.if-is_many.ensures) (
      output_data c.in_ok-answer.answer,
      settled_is P c.request_answer.result _ c.in_ok-answer.ensures c.request_answer.ensures.answered,
      is,
    ))
    c.render_in.ensures
