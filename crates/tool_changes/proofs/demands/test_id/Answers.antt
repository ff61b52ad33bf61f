use Rattle.tool_changes.proofs.DemandLemmas.{not_said}
use Rattle.tool_changes.proofs.demands.test_id.Goals as goal

pub returns-else-is_id_word-clause-err : goal.returns-else-is_id_word-clause-err
returns-else-is_id_word-clause-err c = not_said _ c.unusable.result c.if-is_id_word.ensures c.unusable.ensures
