use Rattle.std.proofs.Common.{ℕ, List, ◌++◌, ap, arith, map, ◌∙◌, rules, string_bytes}
use Rattle.std.specs.List.{join_with_byte}
use Rattle.std.proofs.lemmas.Iterator.Consumers.{YieldsList-end}
use Rattle.std.proofs.lemmas.Iterator.Splits.{YieldsList-from_str_split}
use Rattle.tool_layout.specs.Layouts.{laid_word}
use Rattle.tool_layout.proofs.LineLemmas.{parting-more, words-more}
use Rattle.tool_layout.proofs.line.push_line.Goals as goal

pub loop-word-preserved : goal.loop-word-preserved
loop-word-preserved c = (
  parting-more c.loop-word.yielded c.in-Some.word,
  words-more (laid_word c.args.look.now) c.loop-word.yielded c.in-Some.word _ _ _ _ c.loop-word.invariant.1
      (c.in_ok-push_str.ensures.bytes ∙ ap (λ (t : List ℕ). string_bytes c.loop-word.laid ++ t) c.loop-word.invariant.0)
      c.in_ok-push_word.ensures,
)

pub returns : goal.returns
returns c =
    let end = YieldsList-end (YieldsList-from_str_split 32 c.args.line.now (omega arith) (search rules) (search rules) (search rules)) c.loop-word.yielded _ c.loop-word.yielded_by _ _ c.in-None.is c.next.ensures.steps in
    c.loop-word.invariant.1
    ∙ ap (λ (words : List (List ℕ)). string_bytes c.args.laid.now ++ join_with_byte 32 (map (laid_word c.args.look.now) words)) end.0
