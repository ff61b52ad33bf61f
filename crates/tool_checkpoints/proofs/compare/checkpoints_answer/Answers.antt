use Rattle.std.proofs.Common.{Err}
use Rattle.std.proofs.lemmas.Result.{err_from_is_err_and}
use Rattle.tool_checkpoints.specs.CheckpointAnswers.{IsSigned}
use Rattle.tool_checkpoints.proofs.WordLemmas.{file_said, file_unsaid}
use Rattle.tool_checkpoints.proofs.compare.checkpoints_answer.Goals as goal

pub returns-in_err-old-clause-answered : goal.returns-in_err-old-clause-answered
returns-in_err-old-clause-answered g c =
    let p = err_from_is_err_and c.from_residual.result c.from_residual.ensures.1 in
    let end = c.in_err-old.field-0.0 in
    rw (p.1, p.2) (
    file_unsaid _ _ IsSigned _ end c.in_err-old.ensures.err)

pub returns-in_err-new-clause-answered : goal.returns-in_err-new-clause-answered
returns-in_err-new-clause-answered g c =
    let p = err_from_is_err_and c.from_residual-in_err-new.result c.from_residual-in_err-new.ensures.1 in
    let end = c.in_err-new.field-0.0 in
    rw (p.1, p.2) (
    file_said _ _ IsSigned _ c.in_ok-old.old (Err end) c.in_ok-old.ensures.ok (
    file_unsaid _ _ IsSigned _ end (rw c.in_ok-old.ensures.kept at c.in_err-new.ensures.err)))

pub returns-clause-answered : goal.returns-clause-answered
returns-clause-answered g c =
    file_said _ _ IsSigned _ c.in_ok-old.old c.comparison_answer.result c.in_ok-old.ensures.ok (
    file_said _ _ IsSigned _ c.in_ok-new.new c.comparison_answer.result (rw c.in_ok-old.ensures.kept at c.in_ok-new.ensures.ok) (
    rw (c.in_ok-new.ensures.kept, c.in_ok-old.ensures.kept, c.contents.ensures, c.contents-2.ensures) at c.comparison_answer.ensures.answered))
