use Rattle.std.proofs.Common.{Err, refl}
use Rattle.std.proofs.lemmas.Result.{err_from_is_err_and}
use Rattle.tool_checkpoints.specs.CheckpointAnswers.{IsSigned}
use Rattle.tool_checkpoints.specs.Proofs.{IsLogProof}
use Rattle.tool_checkpoints.proofs.WordLemmas.{file_said, file_unsaid}
use Rattle.tool_checkpoints.proofs.contradictions.read_beginning.Goals as goal

pub returns-clause-ok : goal.returns-clause-ok
returns-clause-ok g c = record {
  signed = c.in_ok-signed.signed;
  checkpoint = c.in_ok-signed.ensures.ok;
  is_of = rw c.contents.ensures refl;
  proof = rw c.in_ok-signed.ensures.kept at c.in_ok-proof.ensures.ok;
}

pub returns-in_err-signed-clause-err : goal.returns-in_err-signed-clause-err
returns-in_err-signed-clause-err g c =
    let p = err_from_is_err_and c.from_residual.result c.from_residual.ensures.1 in
    let end = c.in_err-signed.field-0.0 in
    rw (p.1, p.2) (
    file_unsaid _ _ IsSigned _ end c.in_err-signed.ensures.err)

pub returns-in_err-proof-clause-err : goal.returns-in_err-proof-clause-err
returns-in_err-proof-clause-err g c =
    let p = err_from_is_err_and c.from_residual-in_err-proof.result c.from_residual-in_err-proof.ensures.1 in
    let end = c.in_err-proof.field-0.0 in
    rw (p.1, p.2) (
    file_said _ _ IsSigned _ c.in_ok-signed.signed (Err end) c.in_ok-signed.ensures.ok (
    file_unsaid _ _ IsLogProof _ end (rw c.in_ok-signed.ensures.kept at c.in_err-proof.ensures.err)))
