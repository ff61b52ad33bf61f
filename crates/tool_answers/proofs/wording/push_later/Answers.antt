use Rattle.std.proofs.Common.{arith, refl, string_bytes}
use Rattle.tool_answers.proofs.ShownWordLemmas.{after_commas_more}
use Rattle.tool_answers.proofs.wording.push_later.Goals as goal

pub loop-entry-preserved : goal.loop-entry-preserved
loop-entry-preserved g c =
    after_commas_more g.E.EntryWords.words_of c.args.entries.now c.loop-entry.entry-index _ (string_bytes c.args.text.now) _ _ _ (omega arith)
    c.entry-item.is c.loop-entry.invariant c.in_ok-push_behind_comma.ensures refl
