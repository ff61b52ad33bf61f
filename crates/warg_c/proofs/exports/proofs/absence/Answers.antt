use Rattle.std.proofs.Common.{inl, inr, ap}
use Rattle.std.specs.Prelude.{is_ok}
use Rattle.std.proofs.lemmas.Result.{err_from_is_err_and}
use Rattle.warg_c.proofs.ProofOutcomes.{text_errors}
use Rattle.warg_c.proofs.exports.proofs.absence.Goals as goal

pub returns-in_err-log-clause-err : goal.returns-in_err-log-clause-err
returns-in_err-log-clause-err c =
    let p = err_from_is_err_and c.from_residual.result c.from_residual.ensures.1 in
    rw (p.1, p.2) (text_errors _ _ _ _ _ c.in_err-log.field-0.0 c.in_err-log.ensures.err (λ never. absurd never) (λ bad. inl bad))

pub returns-in_err-root-clause-err : goal.returns-in_err-root-clause-err
returns-in_err-root-clause-err c =
    let p = err_from_is_err_and c.from_residual-in_err-root.result c.from_residual-in_err-root.ensures.1 in
    rw (p.1, p.2) (text_errors _ _ _ _ _ c.in_err-root.field-0.0 c.in_err-root.ensures.err (λ never. absurd never) (λ bad. inr (inl bad)))

pub returns-in_err-proof-clause-err : goal.returns-in_err-proof-clause-err
returns-in_err-proof-clause-err c =
    let p = err_from_is_err_and c.from_residual-in_err-proof.result c.from_residual-in_err-proof.ensures.1 in
    rw (p.1, p.2) (text_errors _ _ _ _ _ c.in_err-proof.field-0.0 c.in_err-proof.ensures.err (λ _. (ap (λ r. is_ok r) c.in_ok-log.ensures.ok, ap (λ r. is_ok r) c.in_ok-root.ensures.ok)) (λ bad. inr (inr bad)))
