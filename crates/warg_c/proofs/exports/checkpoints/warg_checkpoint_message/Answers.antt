use Rattle.std.proofs.lemmas.Result.{IfErr-weaker}
use Rattle.warg_c.specs.CheckpointAnswers.{IsMessageOf}
use Rattle.warg_c.proofs.Finishing.{errors-other, finish-needs}
use Rattle.warg_c.proofs.exports.checkpoints.warg_checkpoint_message.Goals as goal

pub returns-clause-too_small : goal.returns-clause-too_small
returns-clause-too_small c =
    finish-needs (IsMessageOf c.args.log_length c.args.log_root.now c.args.map_root.now c.args.timestamp) _ c.message_in-outcome.result c.args.bytes.now
    c.finish.result c.finish.new.used c.finish.new.out c.finish.ensures.text c.message_in-outcome.ensures.ok (IfErr-weaker _ _ _ (errors-other _ _ _) c.message_in-outcome.ensures.err)
