use Rattle.warg_audit.specs.Files.Answers.{output_data}
use Rattle.tool_answers.proofs.PartingLemmas.{parts_within}
use Rattle.tool_questions.proofs.CompareLemmas.{told_of_kept}
use Rattle.tool_questions.proofs.compare.compared.Goals as goal

pub comparison_answer-requires-clause-within : goal.comparison_answer-requires-clause-within
comparison_answer-requires-clause-within g c =
    rw (c.records-here.ensures.records, c.records-there.ensures.records) (parts_within _ _ _ _ _ c.compare-comparison.ensures.answer)

pub comparison_answer-requires-clause-old_honest : goal.comparison_answer-requires-clause-old_honest
comparison_answer-requires-clause-old_honest g c = c.records-here.ensures.kept.1.honest

pub comparison_answer-requires-clause-new_honest : goal.comparison_answer-requires-clause-new_honest
comparison_answer-requires-clause-new_honest g c = c.records-there.ensures.kept.1.honest

pub returns : goal.returns
returns g c =
    let here = c.records-here.ensures.kept in
    let there = c.records-there.ensures.kept in
    told_of_kept g.L.ToolLog.says_words g.L.Validator.kind g.met.L.Validator.laws here.0 there.0 _ _ _ c.compare-comparison.result (output_data c.in_ok-comparison_answer.field-0)
    (rw c.records-here.ensures.records at here.1.accepted)
    (rw c.records-there.ensures.records at there.1.accepted)
    c.head.ensures
    c.compare-comparison.ensures.answer
    (rw (c.records-here.ensures.records, c.records-there.ensures.records) at c.in_ok-comparison_answer.ensures)
