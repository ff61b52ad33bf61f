use Rattle.std.proofs.Common.{inl, inr, ap, refl}
use Rattle.std.specs.Prelude.{is_ok}
use Rattle.std.proofs.lemmas.Result.{err_from_is_err_and}
use Rattle.warg_c.proofs.ContradictionLemmas.{beginning_case}
use Rattle.warg_c.proofs.ProofOutcomes.{errors_as}
use Rattle.warg_c.proofs.exports.contradictions.beginnings_compared.Goals as goal

pub returns-in_err-root-clause-err : goal.returns-in_err-root-clause-err
returns-in_err-root-clause-err c =
    let p = err_from_is_err_and c.from_residual.result c.from_residual.ensures.1 in
    rw (p.1, p.2) (errors_as _ _ _ _ c.in_err-root.field-0.0 (λ never. absurd never) (λ bad. inl bad) c.in_err-root.ensures.err)

pub returns-in_err-checkpoint-clause-err : goal.returns-in_err-checkpoint-clause-err
returns-in_err-checkpoint-clause-err c =
    let p = err_from_is_err_and c.from_residual-in_err-checkpoint.result c.from_residual-in_err-checkpoint.ensures.1 in
    rw (p.1, p.2) (errors_as _ _ _ _ c.in_err-checkpoint.field-0.0 (λ two. (ap (λ r. is_ok r) c.in_ok-root.ensures.ok, two.0, two.1)) (λ bad. inr (inl bad)) c.in_err-checkpoint.ensures.err)

pub returns-in_err-other_checkpoint-clause-err : goal.returns-in_err-other_checkpoint-clause-err
returns-in_err-other_checkpoint-clause-err c =
    let p = err_from_is_err_and c.from_residual-in_err-other_checkpoint.result c.from_residual-in_err-other_checkpoint.ensures.1 in
    let one = c.in_ok-checkpoint.ensures.ok.checkpoint_text in
    rw (p.1, p.2) (errors_as _ _ _ _ c.in_err-other_checkpoint.field-0.0 (λ _. (ap (λ r. is_ok r) c.in_ok-root.ensures.ok, ap (λ r. is_ok r) one.log_text, ap (λ r. is_ok r) one.map_text)) (λ bad. inr (inr bad)) c.in_err-other_checkpoint.ensures.err)

pub returns-clause-ok : goal.returns-clause-ok
returns-clause-ok c = record {
  newer_is = record { log_root = c.in_ok-root.root; log_length = c.args.new_length; map_root = c.in_ok-root.root };
  one_is = c.in_ok-checkpoint.checkpoint;
  other_is = c.in_ok-other_checkpoint.other_checkpoint;
  one_path = c.in_ok-checkpoint.proof;
  other_path = c.in_ok-other_checkpoint.other_proof;
  case = c.compare_beginnings.result;
  newer_text = record { length_is = refl; root_text = c.in_ok-root.ensures.ok };
  one_text = c.in_ok-checkpoint.ensures.ok;
  other_text = c.in_ok-other_checkpoint.ensures.ok;
  is_case = beginning_case _ _ _ c.compare_beginnings.result c.compare_beginnings.ensures.same c.compare_beginnings.ensures.fork c.compare_beginnings.ensures.collision c.compare_beginnings.ensures.two_lengths c.compare_beginnings.ensures.not_shown;
  number_is = c.beginning_number.ensures;
}
