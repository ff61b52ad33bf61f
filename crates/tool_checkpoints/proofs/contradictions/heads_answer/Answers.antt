use Rattle.std.proofs.Common.{Err}
use Rattle.std.proofs.lemmas.Result.{err_from_is_err_and}
use Rattle.tool_checkpoints.specs.CheckpointAnswers.{IsSigned}
use Rattle.tool_checkpoints.specs.ShownTwice.{AreHeadsCompared, IsByHead}
use Rattle.tool_checkpoints.specs.Words.{IsLogWord, by_value}
use Rattle.tool_checkpoints.proofs.TwiceLemmas.{by_head, head_read, head_unread}
use Rattle.tool_checkpoints.proofs.WordLemmas.{by_file, file_said, file_unsaid, words_said, words_unsaid}
use Rattle.tool_checkpoints.proofs.contradictions.heads_answer.Goals as goal

pub returns-in_err-log_id-clause-answered : goal.returns-in_err-log_id-clause-answered
returns-in_err-log_id-clause-answered g c =
    let p = err_from_is_err_and c.from_residual.result c.from_residual.ensures.1 in
    let end = c.in_err-log_id.field-0.0 in
    rw (p.1, p.2) (
    words_unsaid (IsLogWord c.args.log_id.now) _ end c.in_err-log_id.ensures.err)

pub returns-in_err-signed-clause-answered : goal.returns-in_err-signed-clause-answered
returns-in_err-signed-clause-answered g c =
    let p = err_from_is_err_and c.from_residual-in_err-signed.result c.from_residual-in_err-signed.ensures.1 in
    let end = c.in_err-signed.field-0.0 in
    rw (p.1, p.2) (
    words_said (IsLogWord c.args.log_id.now) _ c.in_ok-log_id.log_id (Err end) c.in_ok-log_id.ensures.ok (
    file_unsaid _ _ IsSigned _ end c.in_err-signed.ensures.err))

pub returns-in_err-one-clause-answered : goal.returns-in_err-one-clause-answered
returns-in_err-one-clause-answered g c =
    let p = err_from_is_err_and c.from_residual-in_err-one.result c.from_residual-in_err-one.ensures.1 in
    let end = c.in_err-one.field-0.0 in
    let root = c.in_ok-signed.signed.contents.checkpoint.map_root in
    rw (p.1, p.2) (
    words_said (IsLogWord c.args.log_id.now) _ c.in_ok-log_id.log_id (Err end) c.in_ok-log_id.ensures.ok (
    file_said _ _ IsSigned _ c.in_ok-signed.signed (Err end) c.in_ok-signed.ensures.ok (
    head_unread _ c.args.one.now
    (λ it. IsByHead (g.S.Store.files c.args.store.now) c.args.other.now (AreHeadsCompared root c.in_ok-log_id.log_id it)) end
    (rw c.in_ok-signed.ensures.kept at c.in_err-one.ensures.err))))

pub returns-in_err-other-clause-answered : goal.returns-in_err-other-clause-answered
returns-in_err-other-clause-answered g c =
    let p = err_from_is_err_and c.from_residual-in_err-other.result c.from_residual-in_err-other.ensures.1 in
    let end = c.in_err-other.field-0.0 in
    let root = c.in_ok-signed.signed.contents.checkpoint.map_root in
    rw (p.1, p.2) (
    words_said (IsLogWord c.args.log_id.now) _ c.in_ok-log_id.log_id (Err end) c.in_ok-log_id.ensures.ok (
    file_said _ _ IsSigned _ c.in_ok-signed.signed (Err end) c.in_ok-signed.ensures.ok (
    head_read _ c.args.one.now
    (λ it. IsByHead (g.S.Store.files c.args.store.now) c.args.other.now (AreHeadsCompared root c.in_ok-log_id.log_id it))
    c.in_ok-one.one (Err end) (rw c.in_ok-signed.ensures.kept at c.in_ok-one.ensures.ok) (
    head_unread _ c.args.other.now (AreHeadsCompared root c.in_ok-log_id.log_id c.in_ok-one.one) end
    (rw (c.in_ok-one.ensures.kept, c.in_ok-signed.ensures.kept) at c.in_err-other.ensures.err)))))

pub returns-clause-answered : goal.returns-clause-answered
returns-clause-answered g c =
    let root = c.in_ok-signed.signed.contents.checkpoint.map_root in
    by_value c.in_ok-log_id.log_id c.in_ok-log_id.ensures.ok (
    by_file _ _ IsSigned _ c.in_ok-signed.signed c.in_ok-signed.ensures.ok _ (
    by_head _ c.args.one.now
    (λ it. IsByHead (g.S.Store.files c.args.store.now) c.args.other.now (AreHeadsCompared root c.in_ok-log_id.log_id it))
    c.in_ok-one.one _ (rw c.in_ok-signed.ensures.kept at c.in_ok-one.ensures.ok) (
    by_head _ c.args.other.now (AreHeadsCompared root c.in_ok-log_id.log_id c.in_ok-one.one) c.in_ok-other.other _
    (rw (c.in_ok-one.ensures.kept, c.in_ok-signed.ensures.kept) at c.in_ok-other.ensures.ok)
    (rw c.contents.ensures at c.in_ok-heads_line.ensures))))
