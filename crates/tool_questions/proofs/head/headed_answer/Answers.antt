use Rattle.std.proofs.Common.{string_bytes}
use Rattle.tool_questions.proofs.HeadLemmas.{headed_line}
use Rattle.tool_questions.proofs.head.headed_answer.Goals as goal

pub returns : goal.returns
returns c =
    headed_line c.args.head.now c.args.count _ (string_bytes c.in_ok-time.time) _ (string_bytes c.in_ok-count.count) _ _
    c.in_ok-time.ensures c.as_str.ensures.value c.in_ok-count.ensures c.as_str-2.ensures.value c.in_ok-line.ensures c.new.ensures
