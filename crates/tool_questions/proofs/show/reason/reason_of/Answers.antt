use Rattle.std.proofs.Common.{string_bytes}
use Rattle.tool_questions.proofs.ShowLemmas.ReasonLemmas.{offence_explained}
use Rattle.tool_questions.proofs.show.reason.reason_of.Goals as goal

pub returns-in_ok-entry_in-in-Validation : goal.returns-in_ok-entry_in-in-Validation
returns-in_ok-entry_in-in-Validation g c = λ named names.
    let sentence = c.in_ok-error_sentence-in-Validation in
    let entry = c.in_ok-entry_in-in-Validation in
    offence_explained g.L.ToolLog.sentence_of g.L.Record.Record.fault_of g.L.Validator.offence_of g.L.Record.Record.read g.L.Record.Record.meaning
    g.L.Validator.tells_entry (g.L.Validator.view c.args.state.now) c.args.input.now named
    (string_bytes sentence.field-0) c.in-Validation.offence (rw c.in-Validation.is at names) sentence.ensures entry.field-0 entry.ensures
