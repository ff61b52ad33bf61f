use Rattle.std.proofs.Common.{ap, ◌++◌, ◌∙◌, string_bytes}
use Rattle.tool_questions.proofs.ShowLemmas.ShownLemmas.{said_lines}
use Rattle.tool_questions.proofs.show.show.cut_text.Goals as goal

pub returns : goal.returns
returns g c = λ fault_name offence_name shown reports belongs seen inputs run_error.
    let records = string_bytes c.in_ok-text.text in
    let stands = rw c.records.ensures.records at c.records.ensures.audited.stands in
    record {
      records = records;
      are_records = rw c.records.ensures.records at (said_lines g.L.Validator.kind.id g.L.ToolLog.words_of g.L.Record.Record.meaning g.L.Record.Record.read g.L.ToolLog.says_words g.met.L.ToolLog.says_its_words
          c.records.result.now records c.records.ensures.audited.honest c.in_ok-text.ensures);
      refused = string_bytes c.in_ok-refused.refused;
      refuses = rw (ap g.L.Validator.view c.state.ensures.state ∙ stands) at (c.in_ok-refused.ensures fault_name offence_name shown reports belongs seen inputs run_error);
      is = c.in_ok-push_str.ensures.bytes ∙ ap (λ text. records ++ text) c.as_str.ensures.value;
    }
