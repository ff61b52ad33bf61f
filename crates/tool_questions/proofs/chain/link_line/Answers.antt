use Rattle.std.proofs.Common.{◌<◌, ◌∙◌, ap, length, string_bytes}
use Rattle.std.proofs.lemmas.List.{length-map}
use Rattle.std.proofs.lemmas.Result.{IfOk-weaker}
use Rattle.tool_answers.proofs.PartingLemmas.{envelope_at, honest_at}
use Rattle.tool_answers.specs.Texts.{link_text}
use Rattle.tool_questions.proofs.chain.link_line.Goals as goal

pub bounds-records-link : goal.bounds-records-link
bounds-records-link g c = rw length-map at c.requires.within

pub returns : goal.returns
returns g c =
    let place = c.args.link.record_index in
    let low : place < length c.args.records.now = rw length-map at c.requires.within in
    let it = c.index-records-link.result in
    let is_there = c.index-records-link.is in
    let honest = honest_at c.args.records.now place it low is_there g.L.Record.Record.read g.L.Record.Record.meaning c.requires.honest in
    IfOk-weaker c.link_text.result _ _
    (λ text is. record {
      envelope = it.envelope;
      at = envelope_at c.args.records.now place it low is_there;
      words = g.L.ToolLog.words_of it.contents;
      says = g.met.L.ToolLog.says_its_words it.contents it.envelope.content honest;
      time = string_bytes c.in_ok-time.time;
      is_time = rw c.contents.ensures at c.in_ok-time.ensures;
      is = is ∙ ap (λ time. link_text c.args.link time c.key_id.result.now c.args.to.now) c.as_str.ensures.value
          ∙ ap (λ signer. link_text c.args.link (string_bytes c.in_ok-time.time) signer c.args.to.now) c.key_id.ensures;
    })
    c.link_text.ensures
