use Rattle.std.proofs.Common.{◌++◌, ap, refl, string_bytes, ◌∙◌}
use Rattle.std.proofs.lemmas.Result.{on_ok_weaker}
use Rattle.warg_audit.specs.Files.Texts.{line}
use Rattle.warg_printable.specs.Printable.{printable}
use Rattle.tool_questions.specs.Show.ShownLogs.{behind_id, placed_line}
use Rattle.tool_questions.proofs.ShowLemmas.ShownLemmas.{place_joined}
use Rattle.tool_questions.proofs.show.show.push_record_line.Goals as goal

pub returns : goal.returns
returns g c =
    let id = g.L.Validator.kind.id c.args.envelope.now.envelope.content in
    let more = c.in_ok-push_record.ensures in
    let shown = behind_id id more.0 in
    let joined = place_joined c.args.place id c.record_id.result more.0 _ _ c.in_ok-line.ensures c.record_id.ensures more.2 in
    on_ok_weaker c.push_printed_line.result
    (λ is. (
      placed_line c.args.place shown,
      (shown, (more.0, more.1, refl), refl),
      is ∙ ap (λ text. string_bytes c.args.text.now ++ line (printable text)) (c.as_str.ensures.value ∙ joined),
    ))
    c.push_printed_line.ensures
