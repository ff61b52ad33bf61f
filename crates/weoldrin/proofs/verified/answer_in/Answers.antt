use Rattle.std.proofs.Common.{inl, inr}
use Rattle.std.proofs.lemmas.Result.{IfOk-weaker}
use Rattle.weoldrin.proofs.RequestLemmas.{render_error}
use Rattle.weoldrin.proofs.verified.answer_in.Goals as goal

pub returns-in-None-clause-answered : goal.returns-in-None-clause-answered
returns-in-None-clause-answered g c = rw c.in-None.is c.known_answer.ensures.answered

pub returns-in-None-clause-files : goal.returns-in-None-clause-files
returns-in-None-clause-files g c = rw c.in-None.is c.known_answer.ensures.files

pub returns-in-Ok-clause-answered : goal.returns-in-Ok-clause-answered
returns-in-Ok-clause-answered g c =
    rw c.in-Some.is (IfOk-weaker c.respond.result _ _ (λ answer told. inr (c.in-Ok.verified, c.in-Ok.ensures.ok, told))
    (rw c.in-Ok.ensures.kept at c.respond.ensures.answered))

pub returns-in-Ok-clause-files : goal.returns-in-Ok-clause-files
returns-in-Ok-clause-files g c =
    rw c.in-Some.is (inr (c.in-Ok.verified, c.in-Ok.ensures.ok, rw c.in-Ok.ensures.kept at c.respond.ensures.files))

pub returns-in-Err-clause-answered : goal.returns-in-Err-clause-answered
returns-in-Err-clause-answered g c =
    rw c.in-Some.is (IfOk-weaker c.render_error_output.result _ _
    (λ answer told. inl (render_error _ c.in-Err.error _ _ _ _ c.in-Err.ensures.err told)) c.render_error_output.ensures)

pub returns-in-Err-clause-files : goal.returns-in-Err-clause-files
returns-in-Err-clause-files g c = rw c.in-Some.is (inl c.in-Err.ensures.kept)
