use Rattle.std.proofs.Common.{◌∙◌, ap}
use Rattle.warg_protocol.specs.Logs.{envelopes}
use Rattle.tool_questions.proofs.CompareLemmas.{is_compared, old_is_compared}
use Rattle.tool_questions.proofs.compare.compare_answer.Goals as goal

pub returns-in-Ok : goal.returns-in-Ok
returns-in-Ok g c = λ fault_name offence_name shown reports.
    let old = c.in-Ok.ensures.lawful fault_name offence_name shown reports in
    is_compared _ g.L.ToolLog.says_words _ _ _ old.0 c.compared_with.result old.1.0
    (c.compared_with.ensures fault_name offence_name shown reports old.0 (ap envelopes c.into_records-records.ensures.records ∙ old.1.1))

pub returns-in-Err : goal.returns-in-Err
returns-in-Err g c = λ fault_name offence_name shown reports.
    old_is_compared _ g.L.ToolLog.says_words _ _ _ c.in-Err.error (c.in-Err.ensures.err fault_name offence_name shown reports)
