use Rattle.std.proofs.Common.{string_bytes}
use Rattle.tool_questions.proofs.show.show.refused_answer.Goals as goal

pub returns : goal.returns
returns g c = λ fault_name offence_name shown reports belongs seen inputs run_error.
    (string_bytes c.in_ok-text.text, c.in_ok-text.ensures fault_name offence_name shown reports belongs seen inputs run_error, c.new.ensures)
