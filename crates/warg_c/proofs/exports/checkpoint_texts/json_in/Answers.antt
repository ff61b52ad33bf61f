use Rattle.std.proofs.lemmas.Result.{IfErr-weaker}
use Rattle.warg_c.proofs.CheckpointTextLemmas.{no-json}
use Rattle.warg_c.proofs.exports.checkpoint_texts.json_in.Goals as goal

pub returns-clause-err : goal.returns-clause-err
returns-clause-err c = IfErr-weaker c.read_asked.result _ _ (no-json c.args.text.now) c.read_asked.ensures.err
