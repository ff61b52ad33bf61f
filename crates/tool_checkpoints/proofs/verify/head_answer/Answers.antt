use Rattle.std.proofs.Common.{Err}
use Rattle.std.proofs.lemmas.Result.{err_from_is_err_and}
use Rattle.tool_checkpoints.specs.Proofs.{IsCheckpoint, IsLeafOf, IsMapProof}
use Rattle.tool_checkpoints.specs.Words.{by_value}
use Rattle.tool_checkpoints.proofs.WordLemmas.{by_file, file_said, file_unsaid, words_said, words_unsaid}
use Rattle.tool_checkpoints.proofs.verify.head_answer.Goals as goal

pub returns-in_err-leaf-clause-answered : goal.returns-in_err-leaf-clause-answered
returns-in_err-leaf-clause-answered g c =
    let p = err_from_is_err_and c.from_residual.result c.from_residual.ensures.1 in
    let end = c.in_err-leaf.field-0.0 in
    rw (p.1, p.2) (
    words_unsaid (IsLeafOf c.args.leaf.now.log_id.now c.args.leaf.now.record_id.now) _ end c.in_err-leaf.ensures.err)

pub returns-in_err-checkpoint-clause-answered : goal.returns-in_err-checkpoint-clause-answered
returns-in_err-checkpoint-clause-answered g c =
    let p = err_from_is_err_and c.from_residual-in_err-checkpoint.result c.from_residual-in_err-checkpoint.ensures.1 in
    let end = c.in_err-checkpoint.field-0.0 in
    rw (p.1, p.2) (
    words_said (IsLeafOf c.args.leaf.now.log_id.now c.args.leaf.now.record_id.now) _ c.in_ok-leaf.leaf (Err end) c.in_ok-leaf.ensures.ok (
    file_unsaid _ _ IsCheckpoint _ end c.in_err-checkpoint.ensures.err))

pub returns-in_err-proof-clause-answered : goal.returns-in_err-proof-clause-answered
returns-in_err-proof-clause-answered g c =
    let p = err_from_is_err_and c.from_residual-in_err-proof.result c.from_residual-in_err-proof.ensures.1 in
    let end = c.in_err-proof.field-0.0 in
    rw (p.1, p.2) (
    words_said (IsLeafOf c.args.leaf.now.log_id.now c.args.leaf.now.record_id.now) _ c.in_ok-leaf.leaf (Err end) c.in_ok-leaf.ensures.ok (
    file_said _ _ IsCheckpoint _ c.in_ok-checkpoint.checkpoint (Err end) c.in_ok-checkpoint.ensures.ok (
    file_unsaid _ _ IsMapProof _ end (rw c.in_ok-checkpoint.ensures.kept at c.in_err-proof.ensures.err))))

pub returns-clause-answered : goal.returns-clause-answered
returns-clause-answered g c =
    by_value c.in_ok-leaf.leaf c.in_ok-leaf.ensures.ok (
    by_file _ _ IsCheckpoint _ c.in_ok-checkpoint.checkpoint c.in_ok-checkpoint.ensures.ok _ (
    by_file _ _ IsMapProof _ c.in_ok-proof.proof (rw c.in_ok-checkpoint.ensures.kept at c.in_ok-proof.ensures.ok) _ (
    c.in_ok-head_verdict.ensures)))
