use Rattle.std.proofs.Common.{inl, inr, ap}
use Rattle.std.specs.Prelude.{is_ok}
use Rattle.std.proofs.lemmas.Result.{err_from_is_err_and}
use Rattle.warg_c.proofs.ForkLemmas.{leaf_case}
use Rattle.warg_c.proofs.ProofOutcomes.{errors_as}
use Rattle.warg_c.proofs.exports.forks.leaves_compared.Goals as goal

pub returns-in_err-checkpoint-clause-err : goal.returns-in_err-checkpoint-clause-err
returns-in_err-checkpoint-clause-err c =
    let p = err_from_is_err_and c.from_residual.result c.from_residual.ensures.1 in
    rw (p.1, p.2) (errors_as _ _ _ _ c.in_err-checkpoint.field-0.0 (λ takes. takes) (λ bad. inl bad) c.in_err-checkpoint.ensures.err)

pub returns-in_err-other_checkpoint-clause-err : goal.returns-in_err-other_checkpoint-clause-err
returns-in_err-other_checkpoint-clause-err c =
    let p = err_from_is_err_and c.from_residual-in_err-other_checkpoint.result c.from_residual-in_err-other_checkpoint.ensures.1 in
    let old = c.in_ok-checkpoint.ensures.ok in
    rw (p.1, p.2) (errors_as _ _ _ _ c.in_err-other_checkpoint.field-0.0 (λ _. (ap (λ r. is_ok r) old.leaf_texts.log_id, ap (λ r. is_ok r) old.leaf_texts.record_id, ap (λ r. is_ok r) old.root_text)) (λ bad. inr bad) c.in_err-other_checkpoint.ensures.err)

pub returns-clause-ok : goal.returns-clause-ok
returns-clause-ok c = record {
  old_checkpoint = c.in_ok-checkpoint.checkpoint;
  new_checkpoint = c.in_ok-other_checkpoint.other_checkpoint;
  old_leaf = c.in_ok-checkpoint.leaf;
  new_leaf = c.in_ok-other_checkpoint.other_leaf;
  old_path = c.in_ok-checkpoint.proof;
  new_path = c.in_ok-other_checkpoint.other_proof;
  case = c.compare_leaves.result;
  old_text = c.in_ok-checkpoint.ensures.ok;
  new_text = c.in_ok-other_checkpoint.ensures.ok;
  is_case = leaf_case c.args.place _ _ c.compare_leaves.result c.compare_leaves.ensures.same c.compare_leaves.ensures.fork c.compare_leaves.ensures.not_shown;
  number_is = c.leaf_number.ensures;
}
