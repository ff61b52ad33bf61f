use Rattle.std.proofs.Common.{◌++◌, ap, map, refl, string_bytes, ◌∙◌}
use Rattle.std.proofs.lemmas.Result.{on_ok_weaker}
use Rattle.tool_answers.specs.ShownWords.{comma_list, record_line}
use Rattle.tool_answers.proofs.ShownWordLemmas.{record_joined}
use Rattle.tool_answers.proofs.wording.push_record.Goals as goal

pub returns : goal.returns
returns g c =
    let time = c.as_str.result.now in
    let id = c.args.envelope.now.envelope.key_id in
    let old = string_bytes c.args.text.now in
    let list = comma_list (map g.E.EntryWords.words_of c.args.envelope.now.contents.entries.items) in
    let entries = c.as_slice.ensures.value ∙ ap (λ it. it.entries.items) c.contents-record.ensures in
    on_ok_weaker c.push_entries.result
    (λ is. (
      record_line time id list,
      (time, rw c.as_str.ensures.value (rw (ap (λ it. it.timestamp) c.contents-record.ensures) at c.in_ok-time.ensures), refl),
      record_joined old time id list _ _ c.key_id.result.now c.in_ok-push_signer.ensures c.key_id.ensures
          (is ∙ ap (λ items. string_bytes c.push_signer.new.text ++ comma_list (map g.E.EntryWords.words_of items)) entries),
    ))
    c.push_entries.ensures
