use Rattle.std.proofs.lemmas.Result.{IfOk-weaker}
use Rattle.tool_changes.proofs.JsonLemmas.{none_left}
use Rattle.tool_changes.proofs.json.json_text.Goals as goal

pub returns-then-is_empty : goal.returns-then-is_empty
returns-then-is_empty c =
    IfOk-weaker c.message_object.result _ _
    (λ text is. record {
      of_lines = λ some. absurd (none_left _ (rw c.as_str-text.ensures.value at c.if-is_empty.ensures) some);
      of_none = λ none. rw (c.first_line-sentence.ensures, c.as_str.ensures.value) at is;
    })
    c.message_object.ensures
