use Rattle.std.proofs.lemmas.Result.{err_from_is_err_and}
use Rattle.tool_checkpoints.specs.Proofs.{IsLeafOf}
use Rattle.tool_checkpoints.specs.Words.{IsLogWord, IsRecordWord}
use Rattle.tool_checkpoints.proofs.WordLemmas.{unsaid_to}
use Rattle.tool_checkpoints.proofs.read_words.leaf_of.Goals as goal

pub returns-clause-ok : goal.returns-clause-ok
returns-clause-ok c = record { log_is = c.in_ok-log_id.ensures.ok; record_is = c.in_ok-record_id.ensures.ok }

pub returns-in_err-log_id-clause-err : goal.returns-in_err-log_id-clause-err
returns-in_err-log_id-clause-err c =
    let p = err_from_is_err_and c.from_residual.result c.from_residual.ensures.1 in
    rw (p.1, p.2) (unsaid_to (IsLogWord c.args.log_id.now) (IsLeafOf c.args.log_id.now c.args.record_id.now) c.in_err-log_id.field-0.0
    c.in_err-log_id.ensures.err (λ leaf it. (leaf.log_id, it.log_is)))

pub returns-in_err-record_id-clause-err : goal.returns-in_err-record_id-clause-err
returns-in_err-record_id-clause-err c =
    let p = err_from_is_err_and c.from_residual-in_err-record_id.result c.from_residual-in_err-record_id.ensures.1 in
    rw (p.1, p.2) (unsaid_to (IsRecordWord c.args.record_id.now) (IsLeafOf c.args.log_id.now c.args.record_id.now) c.in_err-record_id.field-0.0
    c.in_err-record_id.ensures.err (λ leaf it. (leaf.record_id, it.record_is)))
