use Rattle.std.proofs.Common.{◌∙◌, ap}
use Rattle.warg_protocol.specs.Logs.{envelopes}
use Rattle.warg_audit.proofs.FilesLemmas.AnswerLemmas.{Answers-to}
use Rattle.tool_questions.proofs.CompareLemmas.{both_are_compared, new_is_compared}
use Rattle.tool_questions.proofs.compare.compared_with.Goals as goal

pub returns-in-Ok : goal.returns-in-Ok
returns-in-Ok g c = λ fault_name offence_name shown reports here same.
    let new = c.in-Ok.ensures.lawful fault_name offence_name shown reports in
    Answers-to _ _ (λ printed told. both_are_compared _ g.L.ToolLog.says_words _ here new.0 _ _ _ printed same (ap envelopes c.into_records-records.ensures.records ∙ new.1.1) new.1.0 told)
    c.compared.result c.compared.ensures

pub returns-in-Err : goal.returns-in-Err
returns-in-Err g c = λ fault_name offence_name shown reports here same.
    new_is_compared _ g.L.ToolLog.says_words _ here _ c.in-Err.error (c.in-Err.ensures.err fault_name offence_name shown reports)
