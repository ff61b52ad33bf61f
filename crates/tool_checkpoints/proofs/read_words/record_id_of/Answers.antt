use Rattle.std.proofs.Common.{sym}
use Rattle.std.proofs.lemmas.Result.{IfOk-weaker}
use Rattle.tool_checkpoints.specs.Words.{IsRecordWord}
use Rattle.tool_checkpoints.proofs.WordLemmas.{no_record, unsaid_word}
use Rattle.tool_checkpoints.proofs.read_words.record_id_of.Goals as goal

pub returns-clause-ok : goal.returns-clause-ok
returns-clause-ok c = IfOk-weaker c.value_of.result _ _ (λ record_id told. sym told) c.value_of.ensures.ok

pub returns-clause-err : goal.returns-clause-err
returns-clause-err c =
    unsaid_word (IsRecordWord c.args.word.now) _ c.value_of.result c.value_of.ensures.err c.value_of.ensures.refused
    (λ told. no_record c.args.word.now told.0 told.1)
