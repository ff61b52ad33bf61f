use Rattle.std.proofs.Common.{◌≡◌, [], rules, string_bytes}
use Rattle.tool_questions.proofs.ShowLemmas.ShownLemmas.{every_record, no_record, record_more}
use Rattle.tool_questions.proofs.show.show.records_text.Goals as goal

pub loop-place-init : goal.loop-place-init
loop-place-init g c =
    let none : string_bytes c.new-text.result ≡ [] = search rules in
    no_record g.L.Validator.kind.id g.L.ToolLog.words_of c.args.records.now _ none

pub loop-place-preserved : goal.loop-place-preserved
loop-place-preserved g c =
    record_more g.L.Validator.kind.id g.L.ToolLog.words_of c.args.records.now c.loop-place.place _ (string_bytes c.loop-place.text) _
    c.loop-place-test.true c.index-records-place.is c.loop-place.invariant c.in_ok-push_record_line.ensures

pub returns : goal.returns
returns g c =
    every_record g.L.Validator.kind.id g.L.ToolLog.words_of c.args.records.now c.loop-place.place _ c.loop-place-test.false
    c.loop-place.invariant
