use Rattle.std.proofs.Common.{◌∙◌, ap}
use Rattle.serde_json.specs.View.{view}
use Rattle.warg_saved_states.specs.JsonText.{or_fault}
use Rattle.warg_c.proofs.CheckpointTextLemmas.{read-asked, read-fault}
use Rattle.warg_c.proofs.exports.checkpoint_texts.read_signed.Goals as goal

pub returns-in-Ok-clause-ok : goal.returns-in-Ok-clause-ok
returns-in-Ok-clause-ok c = read-asked c.args.text.now (view c.in_ok-value.value) c.in_ok-value.ensures.ok ∙ ap or_fault c.in-Ok.ensures

pub returns-clause-err : goal.returns-clause-err
returns-clause-err c =
    read-fault c.args.text.now (view c.in_ok-value.value) c.in_ok-value.ensures.ok c.in-Err.fault c.from.result c.from.ensures c.in-Err.ensures
