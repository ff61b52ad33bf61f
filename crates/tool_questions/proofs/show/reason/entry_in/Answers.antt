use Rattle.std.proofs.Common.{refl}
use Rattle.std.proofs.lemmas.Result.{IfOk-weaker}
use Rattle.tool_answers.proofs.UnreadLemmas.{unread_err}
use Rattle.tool_answers.specs.Explanations.{of_no_record, of_record}
use Rattle.tool_questions.proofs.show.reason.entry_in.Goals as goal

pub returns-in-Ok : goal.returns-in-Ok
returns-in-Ok g c = λ o h.
    let opened = c.in-Ok.ensures.opened in
    IfOk-weaker c.entry_at_fault.result _ _ (λ entry told. of_record c.in-Ok.envelope opened.0 opened.1 told) (c.entry_at_fault.ensures o h)

pub returns-in_ok-unless_out_of_memory-in-Err : goal.returns-in_ok-unless_out_of_memory-in-Err
returns-in_ok-unless_out_of_memory-in-Err g c = λ o h.
    of_no_record (unread_err g.L.Record.Record.fault_of _ c.in-Err.error c.in_ok-unless_out_of_memory-in-Err.ensures.passed c.in-Err.ensures.opened) refl
