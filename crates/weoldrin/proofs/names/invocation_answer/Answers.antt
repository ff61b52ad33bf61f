use Rattle.std.proofs.Common.{inl, inr}
use Rattle.std.proofs.lemmas.Result.{IfOk-weaker}
use Rattle.weoldrin.specs.Looks.{IsUnnamed}
use Rattle.weoldrin.proofs.RequestLemmas.{render_error}
use Rattle.weoldrin.proofs.names.invocation_answer.Goals as goal

pub returns-in-None-clause-answered : goal.returns-in-None-clause-answered
returns-in-None-clause-answered g c = rw c.in-None.is (rw c.new-names.ensures at c.answer_in.ensures.answered)

pub returns-in-None-clause-files : goal.returns-in-None-clause-files
returns-in-None-clause-files g c = rw c.in-None.is c.answer_in.ensures.files

pub returns-in-Ok-clause-answered : goal.returns-in-Ok-clause-answered
returns-in-Ok-clause-answered g c =
    rw c.in-Some.is (IfOk-weaker c.answer_in-in-Ok.result _ _ (λ answer told. inr (c.in-Ok.names, c.in-Ok.ensures.ok, told))
    (rw c.in-Ok.ensures.kept at c.answer_in-in-Ok.ensures.answered))

pub returns-in-Ok-clause-files : goal.returns-in-Ok-clause-files
returns-in-Ok-clause-files g c =
    rw c.in-Some.is (inr (c.in-Ok.names, c.in-Ok.ensures.ok, rw c.in-Ok.ensures.kept at c.answer_in-in-Ok.ensures.files))

pub returns-in-Err-clause-answered : goal.returns-in-Err-clause-answered
returns-in-Err-clause-answered g c =
    rw c.in-Some.is (IfOk-weaker c.render_error_output.result _ _
    (λ answer told. inl (render_error (IsUnnamed (g.S.Store.files c.args.store.now) c.in-Some.path.now) c.in-Err.error _ _ _ _
    c.in-Err.ensures.err told)) c.render_error_output.ensures)

pub returns-in-Err-clause-files : goal.returns-in-Err-clause-files
returns-in-Err-clause-files g c = rw c.in-Some.is (inl c.in-Err.ensures.kept)
