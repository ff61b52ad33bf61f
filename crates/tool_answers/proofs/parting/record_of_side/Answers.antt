use Rattle.std.proofs.Common.{◌≡◌, ◌<◌, ◌++◌, ◌∙◌, ap, append_assoc, codes, length, rules, string_bytes}
use Rattle.std.proofs.lemmas.Result.{IfOk-weaker}
use Rattle.tool_answers.proofs.PartingLemmas.{envelope_at, honest_at, length-contents}
use Rattle.warg_audit.specs.Files.Texts.{line}
use Rattle.warg_printable.specs.Printable.{printable}
use Rattle.tool_answers.proofs.parting.record_of_side.Goals as goal

pub bounds-records-place : goal.bounds-records-place
bounds-records-place g c = rw length-contents at c.requires.within

pub returns : goal.returns
returns g c =
    let low : c.args.place < length c.args.records.now = rw length-contents at c.requires.within in
    let it = c.index-records-place.result in
    let honest = honest_at c.args.records.now c.args.place it low c.index-records-place.is g.L.Record.Record.read g.L.Record.Record.meaning
    c.requires.honest in
    let name = c.args.name.now in
    let begun : string_bytes c.in_ok-said.said ≡ name ++ codes " " = search rules in
    let more = c.in_ok-push_record.ensures in
    let joined = c.as_str.ensures.value ∙ more.2 ∙ ap (λ text. text ++ more.0) begun ∙ append_assoc name (codes " ") more.0 in
    IfOk-weaker c.printed_line.result _ _
    (λ text is. record {
      envelope = it.envelope;
      at = envelope_at c.args.records.now c.args.place it low c.index-records-place.is;
      said = more.0;
      is_said = record {
        words = g.L.ToolLog.words_of it.contents;
        says = g.met.L.ToolLog.says_its_words it.contents it.envelope.content honest;
        is = more.1;
      };
      is = is ∙ ap (λ text. line (printable text)) joined;
    })
    c.printed_line.ensures
