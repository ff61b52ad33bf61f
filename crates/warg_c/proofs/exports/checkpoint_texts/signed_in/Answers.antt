use Rattle.std.proofs.Common.{inl}
use Rattle.std.proofs.lemmas.Result.{err_from_is_err_and}
use Rattle.warg_c.proofs.CheckpointTextLemmas.{signature-errors}
use Rattle.warg_c.proofs.ProofOutcomes.{errors_as}
use Rattle.warg_c.proofs.exports.checkpoint_texts.signed_in.Goals as goal

pub returns-in_err-key_id-clause-err : goal.returns-in_err-key_id-clause-err
returns-in_err-key_id-clause-err c =
    let p = err_from_is_err_and c.from_residual.result c.from_residual.ensures.1 in
    rw (p.1, p.2) (errors_as _ _ _ _ c.in_err-key_id.field-0.0 (λ utf8. utf8) (λ bad. inl bad) c.in_err-key_id.ensures.err)

pub returns-in_err-signature-clause-err : goal.returns-in_err-signature-clause-err
returns-in_err-signature-clause-err c =
    let p = err_from_is_err_and c.from_residual-in_err-signature.result c.from_residual-in_err-signature.ensures.1 in
    rw (p.1, p.2) (signature-errors c.args.key_id.now c.args.signature.now c.in_ok-key_id.ensures.utf8 c.in_err-signature.field-0.0 c.in_err-signature.ensures.err)
