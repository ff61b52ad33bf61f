use Rattle.std.proofs.Common.{inl, inr}
use Rattle.std.proofs.lemmas.Result.{err_from_is_err_and}
use Rattle.warg_c.proofs.ProofOutcomes.{errors_as}
use Rattle.warg_c.proofs.exports.forks.shown_in.Goals as goal

pub returns-in_err-leaf-clause-err : goal.returns-in_err-leaf-clause-err
returns-in_err-leaf-clause-err c =
    let p = err_from_is_err_and c.from_residual-in_err-leaf.result c.from_residual-in_err-leaf.ensures.1 in
    rw (p.1, p.2) (errors_as _ _ _ _ c.in_err-leaf.field-0.0 (λ never. absurd never) (λ bad. inr (inl bad)) c.in_err-leaf.ensures.err)
