use Rattle.std.proofs.Common.{rules}
use Rattle.std.proofs.lemmas.Result.{err_from_is_err_and}
use Rattle.warg_c.proofs.Verifications.{is-so, signature-errors}
use Rattle.warg_c.proofs.exports.verifying.verify.Goals as goal

pub returns-in_err-signature-clause-err : goal.returns-in_err-signature-clause-err
returns-in_err-signature-clause-err c =
    let p = err_from_is_err_and c.from_residual-in_err-signature.result c.from_residual-in_err-signature.ensures.1 in
    rw (p.1, p.2) (signature-errors c.args.key.now c.args.message.now c.args.signature.now c.in_ok-key.key c.in_ok-key.ensures.ok.0 c.in_ok-key.ensures.ok.1 (c.is_p256_key.ensures.0 (search (rules, is-so))) c.in_err-signature.field-0.0 c.in_err-signature.ensures.err)
