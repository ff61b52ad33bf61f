use Rattle.std.proofs.Common.{rules}
use Rattle.warg_operator_log.specs.State.{view_of}
use Rattle.warg_c.proofs.CheckpointLemmas.{state-errors}
use Rattle.warg_c.proofs.exports.checkpoints.verify_by.Goals as goal

pub returns-clause-err : goal.returns-clause-err
returns-clause-err c =
    state-errors (view_of c.args.state.now) c.args.key_id.now c.args.signature.now c.args.checkpoint.now c.in-Some.key.now
    (record { may = search (rules); is_key = search (rules) }) (search (rules)) c.verify_under.result c.verify_under.ensures.err
