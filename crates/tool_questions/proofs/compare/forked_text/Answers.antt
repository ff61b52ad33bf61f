use Rattle.std.proofs.Common.{string_bytes}
use Rattle.tool_questions.proofs.CompareLemmas.{three_parts}
use Rattle.tool_questions.proofs.compare.forked_text.Goals as goal

pub returns : goal.returns
returns g c = record {
  of_old = string_bytes c.in_ok-of_old.of_old;
  is_old = c.in_ok-of_old.ensures;
  of_new = string_bytes c.in_ok-of_new.of_new;
  is_new = c.in_ok-of_new.ensures;
  is = three_parts _ (string_bytes c.in_ok-of_old.of_old) (string_bytes c.in_ok-of_new.of_new) _ _ _ c.as_str.result.now c.as_str-2.result.now
      c.in_ok-text.ensures c.in_ok-push_str.ensures.bytes c.as_str.ensures.value c.in_ok-push_str-2.ensures.bytes c.as_str-2.ensures.value;
}
