use Rattle.std.proofs.Common.{sym}
use Rattle.std.proofs.lemmas.Result.{IfOk-weaker}
use Rattle.tool_checkpoints.specs.Words.{IsLogWord}
use Rattle.tool_checkpoints.proofs.WordLemmas.{no_log, unsaid_word}
use Rattle.tool_checkpoints.proofs.read_words.log_id_of.Goals as goal

pub returns-clause-ok : goal.returns-clause-ok
returns-clause-ok c = IfOk-weaker c.value_of.result _ _ (λ log_id told. sym told) c.value_of.ensures.ok

pub returns-clause-err : goal.returns-clause-err
returns-clause-err c =
    unsaid_word (IsLogWord c.args.word.now) _ c.value_of.result c.value_of.ensures.err c.value_of.ensures.refused
    (λ told. no_log c.args.word.now told.0 told.1)
