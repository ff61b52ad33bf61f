use Rattle.tool_checkpoints.proofs.WordLemmas.{words_said, words_unsaid}
use Rattle.tool_checkpoints.proofs.prove.prove_answer.Goals as goal

pub returns-in-Ok-clause-answered : goal.returns-in-Ok-clause-answered
returns-in-Ok-clause-answered g c = words_said _ _ c.in-Ok.asked c.answer_of_file.result c.in-Ok.ensures.ok c.answer_of_file.ensures.answered

pub returns-in-Err-clause-answered : goal.returns-in-Err-clause-answered
returns-in-Err-clause-answered g c = words_unsaid _ _ c.in-Err.error c.in-Err.ensures.err
