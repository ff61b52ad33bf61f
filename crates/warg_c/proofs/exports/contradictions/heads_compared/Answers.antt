use Rattle.std.proofs.Common.{inl, inr, ap, sym}
use Rattle.std.specs.Prelude.{is_ok}
use Rattle.std.proofs.lemmas.Result.{err_from_is_err_and}
use Rattle.warg_c.proofs.ContradictionLemmas.{head_case}
use Rattle.warg_c.proofs.ProofOutcomes.{errors_as}
use Rattle.warg_c.proofs.exports.contradictions.heads_compared.Goals as goal

pub returns-in_err-root-clause-err : goal.returns-in_err-root-clause-err
returns-in_err-root-clause-err c =
    let p = err_from_is_err_and c.from_residual.result c.from_residual.ensures.1 in
    rw (p.1, p.2) (errors_as _ _ _ _ c.in_err-root.field-0.0 (λ never. absurd never) (λ bad. inl (inl bad)) c.in_err-root.ensures.err)

pub returns-in_err-log-clause-err : goal.returns-in_err-log-clause-err
returns-in_err-log-clause-err c =
    let p = err_from_is_err_and c.from_residual-in_err-log.result c.from_residual-in_err-log.ensures.1 in
    rw (p.1, p.2) (errors_as _ _ _ _ c.in_err-log.field-0.0 (λ never. absurd never) (λ bad. inl (inr bad)) c.in_err-log.ensures.err)

pub returns-in_err-head-clause-err : goal.returns-in_err-head-clause-err
returns-in_err-head-clause-err c =
    let p = err_from_is_err_and c.from_residual-in_err-head.result c.from_residual-in_err-head.ensures.1 in
    rw (p.1, p.2) (errors_as _ _ _ _ c.in_err-head.field-0.0 (λ first. ((ap (λ r. is_ok r) c.in_ok-root.ensures.ok, ap (λ r. is_ok r) c.in_ok-log.ensures.ok), first)) (λ bad. inr (inl bad)) c.in_err-head.ensures.err)

pub returns-in_err-other_head-clause-err : goal.returns-in_err-other_head-clause-err
returns-in_err-other_head-clause-err c =
    let p = err_from_is_err_and c.from_residual-in_err-other_head.result c.from_residual-in_err-other_head.ensures.1 in
    rw (p.1, p.2) (errors_as _ _ _ _ c.in_err-other_head.field-0.0 (λ _. ((ap (λ r. is_ok r) c.in_ok-root.ensures.ok, ap (λ r. is_ok r) c.in_ok-log.ensures.ok), ap (λ r. is_ok r) c.in_ok-head.ensures.ok.head_text)) (λ bad. inr (inr bad)) c.in_err-other_head.ensures.err)

pub returns-clause-ok : goal.returns-clause-ok
returns-clause-ok c = record {
  root = c.in_ok-root.root;
  log = record { hash = c.in_ok-log.log };
  one_head = c.in_ok-head.head;
  other_head = c.in_ok-other_head.other_head;
  one_path = c.in_ok-head.proof;
  other_path = c.in_ok-other_head.other_proof;
  case = c.compare_heads-comparison.result;
  root_text = c.in_ok-root.ensures.ok;
  log_text = c.in_ok-log.ensures.ok;
  one_text = c.in_ok-head.ensures.ok;
  other_text = c.in_ok-other_head.ensures.ok;
  is_case = rw (sym c.from.ensures) (head_case c.in_ok-root.root _ _ _ c.compare_heads-comparison.result c.compare_heads-comparison.ensures.same c.compare_heads-comparison.ensures.two c.compare_heads-comparison.ensures.one_and_none c.compare_heads-comparison.ensures.not_shown);
  number_is = c.head_number.ensures;
}
