use Rattle.std.proofs.Common.{Err}
use Rattle.std.proofs.lemmas.Result.{err_from_is_err_and}
use Rattle.tool_checkpoints.specs.Proofs.{IsMapProof}
use Rattle.tool_checkpoints.specs.ShownTwice.{IsHeadWord}
use Rattle.tool_checkpoints.proofs.WordLemmas.{file_unsaid, words_said, words_unsaid}
use Rattle.tool_checkpoints.proofs.contradictions.read_head.Goals as goal

pub returns-clause-ok : goal.returns-clause-ok
returns-clause-ok g c = record { head = c.in_ok-head.ensures.ok; proof = c.in_ok-proof.ensures.ok }

pub returns-in_err-head-clause-err : goal.returns-in_err-head-clause-err
returns-in_err-head-clause-err g c =
    let p = err_from_is_err_and c.from_residual.result c.from_residual.ensures.1 in
    let end = c.in_err-head.field-0.0 in
    rw (p.1, p.2) (
    words_unsaid (IsHeadWord c.args.words.now.record_id.now) _ end c.in_err-head.ensures.err)

pub returns-in_err-proof-clause-err : goal.returns-in_err-proof-clause-err
returns-in_err-proof-clause-err g c =
    let p = err_from_is_err_and c.from_residual-in_err-proof.result c.from_residual-in_err-proof.ensures.1 in
    let end = c.in_err-proof.field-0.0 in
    rw (p.1, p.2) (
    words_said (IsHeadWord c.args.words.now.record_id.now) _ c.in_ok-head.head (Err end) c.in_ok-head.ensures.ok (
    file_unsaid _ _ IsMapProof _ end c.in_err-proof.ensures.err))
