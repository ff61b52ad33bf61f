use Rattle.std.proofs.Common.{Err}
use Rattle.std.proofs.lemmas.Result.{err_from_is_err_and}
use Rattle.tool_checkpoints.specs.CheckpointAnswers.{IsSigned}
use Rattle.tool_checkpoints.specs.ShownTwice.{AreBeginningsCompared, IsByBeginning}
use Rattle.tool_checkpoints.specs.Words.{IsByFile}
use Rattle.tool_checkpoints.proofs.TwiceLemmas.{beginning_read, beginning_unread, by_beginning}
use Rattle.tool_checkpoints.proofs.WordLemmas.{by_file, file_unsaid}
use Rattle.tool_checkpoints.proofs.contradictions.beginnings_answer.Goals as goal

pub returns-in_err-one-clause-answered : goal.returns-in_err-one-clause-answered
returns-in_err-one-clause-answered g c =
    let p = err_from_is_err_and c.from_residual.result c.from_residual.ensures.1 in
    let end = c.in_err-one.field-0.0 in
    let files = g.S.Store.files c.args.store.now in
    rw (p.1, p.2) (
    beginning_unread _ c.args.one.now
    (λ it. IsByBeginning files c.args.other.now (λ another.
    IsByFile files c.args.new.now IsSigned (λ new. AreBeginningsCompared new.contents.checkpoint it another))) end
    c.in_err-one.ensures.err)

pub returns-in_err-other-clause-answered : goal.returns-in_err-other-clause-answered
returns-in_err-other-clause-answered g c =
    let p = err_from_is_err_and c.from_residual-in_err-other.result c.from_residual-in_err-other.ensures.1 in
    let end = c.in_err-other.field-0.0 in
    let files = g.S.Store.files c.args.store.now in
    rw (p.1, p.2) (
    beginning_read _ c.args.one.now
    (λ it. IsByBeginning files c.args.other.now (λ another.
    IsByFile files c.args.new.now IsSigned (λ new. AreBeginningsCompared new.contents.checkpoint it another)))
    c.in_ok-one.one (Err end) c.in_ok-one.ensures.ok (
    beginning_unread _ c.args.other.now
    (λ another. IsByFile files c.args.new.now IsSigned (λ new. AreBeginningsCompared new.contents.checkpoint c.in_ok-one.one another)) end
    (rw c.in_ok-one.ensures.kept at c.in_err-other.ensures.err)))

pub returns-in_err-signed-clause-answered : goal.returns-in_err-signed-clause-answered
returns-in_err-signed-clause-answered g c =
    let p = err_from_is_err_and c.from_residual-in_err-signed.result c.from_residual-in_err-signed.ensures.1 in
    let end = c.in_err-signed.field-0.0 in
    let files = g.S.Store.files c.args.store.now in
    rw (p.1, p.2) (
    beginning_read _ c.args.one.now
    (λ it. IsByBeginning files c.args.other.now (λ another.
    IsByFile files c.args.new.now IsSigned (λ new. AreBeginningsCompared new.contents.checkpoint it another)))
    c.in_ok-one.one (Err end) c.in_ok-one.ensures.ok (
    beginning_read _ c.args.other.now
    (λ another. IsByFile files c.args.new.now IsSigned (λ new. AreBeginningsCompared new.contents.checkpoint c.in_ok-one.one another))
    c.in_ok-other.other (Err end) (rw c.in_ok-one.ensures.kept at c.in_ok-other.ensures.ok) (
    file_unsaid _ _ IsSigned _ end (rw (c.in_ok-other.ensures.kept, c.in_ok-one.ensures.kept) at c.in_err-signed.ensures.err))))

pub returns-clause-answered : goal.returns-clause-answered
returns-clause-answered g c =
    let files = g.S.Store.files c.args.store.now in
    by_beginning _ c.args.one.now
    (λ it. IsByBeginning files c.args.other.now (λ another.
    IsByFile files c.args.new.now IsSigned (λ new. AreBeginningsCompared new.contents.checkpoint it another)))
    c.in_ok-one.one _ c.in_ok-one.ensures.ok (
    by_beginning _ c.args.other.now
    (λ another. IsByFile files c.args.new.now IsSigned (λ new. AreBeginningsCompared new.contents.checkpoint c.in_ok-one.one another))
    c.in_ok-other.other _ (rw c.in_ok-one.ensures.kept at c.in_ok-other.ensures.ok) (
    by_file _ _ IsSigned _ c.in_ok-signed.signed (rw (c.in_ok-other.ensures.kept, c.in_ok-one.ensures.kept) at c.in_ok-signed.ensures.ok) _
    (rw c.contents.ensures at c.in_ok-beginnings_line.ensures)))
