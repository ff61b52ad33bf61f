use Rattle.std.proofs.Common.{string_bytes}
use Rattle.tool_questions.proofs.compare.comparison_answer.Goals as goal

pub returns-in_ok-text-in-Fork : goal.returns-in_ok-text-in-Fork
returns-in_ok-text-in-Fork g c = rw c.in-Fork.is (string_bytes c.in_ok-text-in-Fork.text, c.in_ok-text-in-Fork.ensures, c.new-in-Fork.ensures)
