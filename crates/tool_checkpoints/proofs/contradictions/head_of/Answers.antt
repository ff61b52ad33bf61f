use Rattle.std.proofs.Common.{codes, sym, ◌∙◌}
use Rattle.std.proofs.lemmas.Bool.{false≢true}
use Rattle.std.proofs.lemmas.Slice.Eq.{bytes_eq-Decides}
use Rattle.tool_checkpoints.specs.ShownTwice.{IsHeadWord}
use Rattle.tool_checkpoints.specs.Words.{IsRecordWord}
use Rattle.tool_checkpoints.proofs.TwiceLemmas.{head_said}
use Rattle.tool_checkpoints.proofs.WordLemmas.{unsaid_to}
use Rattle.tool_checkpoints.proofs.contradictions.head_of.Goals as goal

pub returns-in-Err-clause-err : goal.returns-in-Err-clause-err
returns-in-Err-clause-err c =
    let word = c.args.word.now in
    unsaid_to (IsRecordWord word) (IsHeadWord word) c.in-Err.error c.in-Err.ensures.err
    (head_said word (λ none. false≢true (sym c.if-eq.false ∙ c.eq.ensures ∙ (bytes_eq-Decides word (codes "none")).1 none)))
