use Rattle.std.proofs.Common.{inl, inr, ap}
use Rattle.std.specs.Prelude.{is_ok}
use Rattle.std.proofs.lemmas.Result.{err_from_is_err_and}
use Rattle.warg_c.proofs.ProofOutcomes.{errors_as}
use Rattle.warg_c.proofs.exports.contradictions.beginning_in.Goals as goal

pub returns-in_err-checkpoint-clause-err : goal.returns-in_err-checkpoint-clause-err
returns-in_err-checkpoint-clause-err c =
    let p = err_from_is_err_and c.from_residual.result c.from_residual.ensures.1 in
    rw (p.1, p.2) (errors_as _ _ _ _ c.in_err-checkpoint.field-0.0 (λ never. absurd never) (λ bad. inl bad) c.in_err-checkpoint.ensures.err)

pub returns-in_err-proof-clause-err : goal.returns-in_err-proof-clause-err
returns-in_err-proof-clause-err c =
    let p = err_from_is_err_and c.from_residual-in_err-proof.result c.from_residual-in_err-proof.ensures.1 in
    let texts = c.in_ok-checkpoint.ensures.ok in
    rw (p.1, p.2) (errors_as _ _ _ _ c.in_err-proof.field-0.0 (λ _. (ap (λ r. is_ok r) texts.log_text, ap (λ r. is_ok r) texts.map_text)) (λ bad. inr bad) c.in_err-proof.ensures.err)
