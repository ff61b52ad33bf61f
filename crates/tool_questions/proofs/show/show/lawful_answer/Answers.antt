use Rattle.std.proofs.Common.{string_bytes}
use Rattle.tool_questions.proofs.show.show.lawful_answer.Goals as goal

pub returns : goal.returns
returns g c = (string_bytes c.in_ok-text.text, c.in_ok-text.ensures, c.new.ensures)
