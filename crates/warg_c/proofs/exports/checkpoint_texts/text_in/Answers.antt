use Rattle.std.proofs.Common.{inl, inr, ap}
use Rattle.std.specs.Prelude.{is_ok}
use Rattle.std.proofs.lemmas.Result.{IfErr-weaker, IfOk-weaker, err_from_is_err_and}
use Rattle.warg_c.specs.CheckpointTexts.{signed_parts}
use Rattle.warg_c.proofs.CheckpointTextLemmas.{text-of}
use Rattle.warg_c.proofs.ProofOutcomes.{errors_as}
use Rattle.warg_c.proofs.exports.checkpoint_texts.text_in.Goals as goal

pub returns-in_err-checkpoint-clause-err : goal.returns-in_err-checkpoint-clause-err
returns-in_err-checkpoint-clause-err c =
    let p = err_from_is_err_and c.from_residual.result c.from_residual.ensures.1 in
    rw (p.1, p.2) (errors_as _ _ _ _ c.in_err-checkpoint.field-0.0 (λ never. absurd never) (λ bad. inl bad) c.in_err-checkpoint.ensures.err)

pub returns-in_err-signed-clause-err : goal.returns-in_err-signed-clause-err
returns-in_err-signed-clause-err c =
    let p = err_from_is_err_and c.from_residual-in_err-signed.result c.from_residual-in_err-signed.ensures.1 in
    let roots = c.in_ok-checkpoint.ensures.ok in
    rw (p.1, p.2) (errors_as _ _ _ _ c.in_err-signed.field-0.0 (λ utf8. ((ap (λ r. is_ok r) roots.log_text, ap (λ r. is_ok r) roots.map_text), utf8)) (λ bad. inr bad) c.in_err-signed.ensures.err)

pub returns-clause-ok : goal.returns-clause-ok
returns-clause-ok c =
    IfOk-weaker c.json_of.result _ _
    (λ v is. text-of _ _ _ _ _ _ c.in_ok-checkpoint.checkpoint (signed_parts c.in_ok-signed.signed) v.items c.in_ok-checkpoint.ensures.ok c.in_ok-signed.ensures.ok.0 c.in_ok-signed.ensures.ok.1 is)
    c.json_of.ensures.ok

pub returns-clause-err : goal.returns-clause-err
returns-clause-err c =
    let roots = c.in_ok-checkpoint.ensures.ok in
    IfErr-weaker c.json_of.result _ _
    (λ f is. inl (is, ((ap (λ r. is_ok r) roots.log_text, ap (λ r. is_ok r) roots.map_text), c.in_ok-signed.ensures.ok.1.utf8)))
    c.json_of.ensures.err
