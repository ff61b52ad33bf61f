use Rattle.std.proofs.Common.{Err}
use Rattle.std.proofs.lemmas.Result.{err_from_is_err_and}
use Rattle.tool_checkpoints.specs.Proofs.{IsCheckpoint}
use Rattle.tool_checkpoints.specs.Words.{IsNumber, by_value}
use Rattle.tool_checkpoints.proofs.SignedLemmas.{message_told}
use Rattle.tool_checkpoints.proofs.WordLemmas.{by_file, file_unsaid, words_said, words_unsaid}
use Rattle.tool_checkpoints.proofs.checkpoint.message_answer.Goals as goal

pub returns-in_err-timestamp-clause-answered : goal.returns-in_err-timestamp-clause-answered
returns-in_err-timestamp-clause-answered g c =
    let p = err_from_is_err_and c.from_residual.result c.from_residual.ensures.1 in
    let end = c.in_err-timestamp.field-0.0 in
    rw (p.1, p.2) (
    words_unsaid (IsNumber c.args.time.now) _ end c.in_err-timestamp.ensures.err)

pub returns-in_err-checkpoint-clause-answered : goal.returns-in_err-checkpoint-clause-answered
returns-in_err-checkpoint-clause-answered g c =
    let p = err_from_is_err_and c.from_residual-in_err-checkpoint.result c.from_residual-in_err-checkpoint.ensures.1 in
    let end = c.in_err-checkpoint.field-0.0 in
    rw (p.1, p.2) (
    words_said (IsNumber c.args.time.now) _ c.in_ok-timestamp.timestamp (Err end) c.in_ok-timestamp.ensures.ok (
    file_unsaid _ _ IsCheckpoint _ end c.in_err-checkpoint.ensures.err))

pub returns-clause-answered : goal.returns-clause-answered
returns-clause-answered g c =
    by_value c.in_ok-timestamp.timestamp c.in_ok-timestamp.ensures.ok (
    by_file _ _ IsCheckpoint _ c.in_ok-checkpoint.checkpoint c.in_ok-checkpoint.ensures.ok _ (
    message_told _ _ c.in_ok-message_line.ensures.is c.in_ok-message_line.ensures.are_bytes))
