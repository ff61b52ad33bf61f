use Rattle.std.proofs.Common.{ap, ◌++◌, ◌∙◌, string_bytes}
use Rattle.warg_protocol.specs.Logs.{envelope_fault_of, cause_named_by}
use Rattle.warg_audit.specs.Printouts.{OutputData}
use Rattle.warg_audit.specs.Replies.{printed_of}
use Rattle.tool_questions.proofs.ShowLemmas.ShownLemmas.{run_error_told}
use Rattle.tool_questions.proofs.show.show.run_error_text.Goals as goal

pub returns : goal.returns
returns g c = λ fault_name offence_name shown reports belongs seen inputs run_error.
    let cause = cause_named_by (envelope_fault_of g.L.Record.Record.fault_of) g.L.Validator.offence_of c.args.error.now.cause in
    let line = (printed_of c.in_ok-reply.reply).text in
    run_error_told _ belongs _ seen inputs c.args.error.now.index cause c.in-Some.name.now (string_bytes c.in_ok-reason.reason.sentence)
    c.in_ok-reason.reason.entry line (string_bytes c.push_str.new.self) run_error.first
    (rw c.in-Some.is at (c.cause_name.ensures fault_name offence_name shown reports))
    c.in_ok-reason.ensures (ap (λ (p : OutputData). p.text) c.in_ok-reply.ensures)
    (c.in_ok-push_str.ensures.bytes ∙ ap (λ text. text ++ c.as_str-2.result.now) (c.in_ok-all.ensures.ok ∙ c.text.ensures)
    ∙ ap (λ text. line ++ text) (c.as_str-2.ensures.value ∙ (rw (c.as_str.ensures.value, c.advice.ensures) at c.in_ok-words.ensures)))
