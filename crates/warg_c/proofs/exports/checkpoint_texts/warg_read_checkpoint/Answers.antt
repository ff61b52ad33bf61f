use Rattle.std.proofs.Common.{sym, ◌∙◌}
use Rattle.warg_c.specs.CheckpointTexts.{TellsText}
use Rattle.warg_c.proofs.CheckpointTextLemmas.{no-signed, told-needs}
use Rattle.warg_c.proofs.exports.checkpoint_texts.warg_read_checkpoint.Goals as goal

pub returns-in-Ok-clause-too_small : goal.returns-in-Ok-clause-too_small
returns-in-Ok-clause-too_small c =
    told-needs (TellsText c.args.json.now c.in-Ok.shown) c.in-Ok.parts.items c.args.text.now c.finish.result c.finish.new.used c.finish.new.out c.finish.ensures.text c.in-Ok.ensures.ok

pub returns-in-Err-clause-bad_argument : goal.returns-in-Err-clause-bad_argument
returns-in-Err-clause-bad_argument c = λ same.
    no-signed c.args.json.now c.in-Err.error c.refuse_saved.result c.refuse_saved.new.used c.refuse_saved.new.text c.refuse_saved.ensures.call_error c.in-Err.ensures.err
    (sym c.status.ensures.code ∙ same)
