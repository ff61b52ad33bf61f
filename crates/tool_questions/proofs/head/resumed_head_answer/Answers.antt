use Rattle.tool_questions.proofs.HeadLemmas.{head_resumed}
use Rattle.tool_questions.proofs.ResumeLemmas.{none_resumed}
use Rattle.tool_questions.specs.Resumption.{resumed}
use Rattle.tool_questions.proofs.head.resumed_head_answer.Goals as goal

pub returns-in_ok-last_answer-in-Ok : goal.returns-in_ok-last_answer-in-Ok
returns-in_ok-last_answer-in-Ok g c = λ fault_name offence_name shown reports.
    resumed c.in-Ok.state _ (c.in-Ok.ensures.ok fault_name offence_name shown reports)
    (head_resumed g.L.HeadedLog.last c.args.count c.in-Ok.state _ _ _ c.total.result c.total.ensures c.last.ensures
    c.in_ok-last_answer-in-Ok.ensures)

pub returns-in-Err : goal.returns-in-Err
returns-in-Err g c = λ fault_name offence_name shown reports.
    none_resumed _ _ _ _ _ _ _ c.in-Err.error (c.in-Err.ensures.err fault_name offence_name shown reports)
