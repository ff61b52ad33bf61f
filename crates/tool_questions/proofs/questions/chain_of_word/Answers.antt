use Rattle.tool_answers.proofs.WordLemmas.{word_said, word_unsaid}
use Rattle.tool_questions.proofs.questions.chain_of_word.Goals as goal

pub returns-in-Ok-clause-answered : goal.returns-in-Ok-clause-answered
returns-in-Ok-clause-answered g c = λ fault_name offence_name shown reports.
    word_said _ _ c.in-Ok.permission c.chain_of_file.result c.in-Ok.ensures.ok
    (c.chain_of_file.ensures.answered fault_name offence_name shown reports)

pub returns-in-Err-clause-answered : goal.returns-in-Err-clause-answered
returns-in-Err-clause-answered g c = λ fault_name offence_name shown reports. word_unsaid _ _ c.in-Err.error c.in-Err.ensures.err
