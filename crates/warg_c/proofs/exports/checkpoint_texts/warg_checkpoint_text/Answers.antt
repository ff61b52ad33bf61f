use Rattle.std.proofs.lemmas.Result.{IfErr-weaker}
use Rattle.warg_c.specs.CheckpointTexts.{IsTextOf}
use Rattle.warg_c.proofs.Finishing.{errors-other, finish-needs}
use Rattle.warg_c.proofs.exports.checkpoint_texts.warg_checkpoint_text.Goals as goal

pub returns-clause-too_small : goal.returns-clause-too_small
returns-clause-too_small c =
    finish-needs (IsTextOf c.args.log_length c.args.log_root.now c.args.map_root.now c.args.timestamp c.args.key_id.now c.args.signature.now) _ c.text_in-outcome.result
    c.args.text.now c.finish.result c.finish.new.used c.finish.new.out c.finish.ensures.text c.text_in-outcome.ensures.ok
    (IfErr-weaker _ _ _ (errors-other _ _ _) c.text_in-outcome.ensures.err)
