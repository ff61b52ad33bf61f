use Rattle.std.proofs.lemmas.Result.{err_from_is_err_and}
use Rattle.serde_json.specs.View.{view}
use Rattle.warg_log.specs.SavedMembers.{begun_in}
use Rattle.warg_log.proofs.AskedHead.{algorithm_fault, asked_fault, both_read, head_fault}
use Rattle.warg_log.proofs.saved_parts.text_head.Goals as goal

pub returns-in_err-value : goal.returns-in_err-value
returns-in_err-value c =
    let p = err_from_is_err_and c.from_residual.result c.from_residual.ensures.1 in
    rw (p.1, p.2) (asked_fault begun_in c.args.text.now c.in_err-value.field-0.0 c.in_err-value.ensures.err)

pub returns-in_err-algorithm : goal.returns-in_err-algorithm
returns-in_err-algorithm c =
    let p = err_from_is_err_and c.from_residual-in_err-algorithm.result c.from_residual-in_err-algorithm.ensures.1 in
    rw (p.1, p.2) (algorithm_fault c.args.text.now (view c.in_ok-value.value) c.in_ok-value.ensures.ok c.in_err-algorithm.field-0.0 c.in_err-algorithm.ensures)

pub returns-in_err-head : goal.returns-in_err-head
returns-in_err-head c =
    let p = err_from_is_err_and c.from_residual-in_err-head.result c.from_residual-in_err-head.ensures.1 in
    rw (p.1, p.2) (head_fault c.args.text.now (view c.in_ok-value.value) c.in_ok-value.ensures.ok c.in_ok-algorithm.algorithm c.in_ok-algorithm.ensures c.in_err-head.field-0.0 c.in_err-head.ensures)

pub returns : goal.returns
returns c =
    both_read c.args.text.now (view c.in_ok-value.value) c.in_ok-value.ensures.ok c.in_ok-algorithm.algorithm c.in_ok-algorithm.ensures c.in_ok-head.head c.in_ok-head.ensures
