use Rattle.std.proofs.Common.{ap, ◌∙◌, refl, string_bytes}
use Rattle.warg_protocol.specs.Logs.{envelopes}
use Rattle.tool_questions.proofs.ShowLemmas.ShownLemmas.{said_lines, three_parts}
use Rattle.tool_questions.specs.Show.ShownLogs.{head_line}
use Rattle.tool_questions.proofs.show.show.log_text.Goals as goal

pub returns : goal.returns
returns g c =
    let records = string_bytes c.in_ok-text.text in
    let kind = g.L.Validator.kind in
    let same = c.records.ensures.records in
    let stands = rw same at c.records.ensures.audited.stands in
    let state = c.in_ok-push_state.ensures (envelopes c.args.log.now.records) (ap g.L.Validator.view c.state.ensures.state ∙ stands) in
    record {
      records = records;
      are_records = rw same at (said_lines g.L.Validator.kind.id g.L.ToolLog.words_of g.L.Record.Record.meaning g.L.Record.Record.read g.L.ToolLog.says_words g.met.L.ToolLog.says_its_words c.records.result.now
          records c.records.ensures.audited.honest c.in_ok-text.ensures);
      state = state.0;
      is_state = state.1;
      is = three_parts records _ state.0 _ _ c.as_str.result.now state.0 c.in_ok-push_str.ensures.bytes
          (c.as_str.ensures.value ∙ c.in_ok-head.ensures ∙ ap head_line (c.head.ensures.head ∙ ap kind.head stands))
          state.2 refl;
    }
