use Rattle.std.proofs.Common.{Err}
use Rattle.std.proofs.lemmas.Result.{err_from_is_err_and}
use Rattle.tool_checkpoints.specs.Proofs.{IsCheckpoint, IsLogProof}
use Rattle.tool_checkpoints.proofs.WordLemmas.{by_file, file_said, file_unsaid}
use Rattle.tool_checkpoints.proofs.verify.consistency_answer.Goals as goal

pub returns-in_err-old-clause-answered : goal.returns-in_err-old-clause-answered
returns-in_err-old-clause-answered g c =
    let p = err_from_is_err_and c.from_residual.result c.from_residual.ensures.1 in
    let end = c.in_err-old.field-0.0 in
    rw (p.1, p.2) (
    file_unsaid _ _ IsCheckpoint _ end c.in_err-old.ensures.err)

pub returns-in_err-new-clause-answered : goal.returns-in_err-new-clause-answered
returns-in_err-new-clause-answered g c =
    let p = err_from_is_err_and c.from_residual-in_err-new.result c.from_residual-in_err-new.ensures.1 in
    let end = c.in_err-new.field-0.0 in
    rw (p.1, p.2) (
    file_said _ _ IsCheckpoint _ c.in_ok-old.old (Err end) c.in_ok-old.ensures.ok (
    file_unsaid _ _ IsCheckpoint _ end (rw c.in_ok-old.ensures.kept at c.in_err-new.ensures.err)))

pub returns-in_err-proof-clause-answered : goal.returns-in_err-proof-clause-answered
returns-in_err-proof-clause-answered g c =
    let p = err_from_is_err_and c.from_residual-in_err-proof.result c.from_residual-in_err-proof.ensures.1 in
    let end = c.in_err-proof.field-0.0 in
    rw (p.1, p.2) (
    file_said _ _ IsCheckpoint _ c.in_ok-old.old (Err end) c.in_ok-old.ensures.ok (
    file_said _ _ IsCheckpoint _ c.in_ok-new.new (Err end) (rw c.in_ok-old.ensures.kept at c.in_ok-new.ensures.ok) (
    file_unsaid _ _ IsLogProof _ end (rw (c.in_ok-new.ensures.kept, c.in_ok-old.ensures.kept) at c.in_err-proof.ensures.err))))

pub returns-clause-answered : goal.returns-clause-answered
returns-clause-answered g c =
    by_file _ _ IsCheckpoint _ c.in_ok-old.old c.in_ok-old.ensures.ok _ (
    by_file _ _ IsCheckpoint _ c.in_ok-new.new (rw c.in_ok-old.ensures.kept at c.in_ok-new.ensures.ok) _ (
    by_file _ _ IsLogProof _ c.in_ok-proof.proof (rw (c.in_ok-new.ensures.kept, c.in_ok-old.ensures.kept) at c.in_ok-proof.ensures.ok) _ (
    c.in_ok-consistency_verdict.ensures)))
