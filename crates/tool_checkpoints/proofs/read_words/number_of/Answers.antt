use Rattle.std.proofs.lemmas.Result.{IfOk-weaker}
use Rattle.tool_checkpoints.specs.Words.{IsNumber}
use Rattle.tool_checkpoints.proofs.WordLemmas.{no_number, number_said, unsaid_word}
use Rattle.tool_checkpoints.proofs.read_words.number_of.Goals as goal

pub returns-clause-ok : goal.returns-clause-ok
returns-clause-ok c = IfOk-weaker c.value_of.result _ _ (λ n told. number_said c.args.word.now n told.0) c.value_of.ensures.ok

pub returns-clause-err : goal.returns-clause-err
returns-clause-err c =
    unsaid_word (IsNumber c.args.word.now) _ c.value_of.result c.value_of.ensures.err c.value_of.ensures.refused
    (λ told. no_number c.args.word.now told.1.0)
