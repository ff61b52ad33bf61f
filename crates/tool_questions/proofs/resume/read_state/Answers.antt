use Rattle.std.proofs.Common.{inr}
use Rattle.tool_questions.proofs.ResumeLemmas.{text_is_returned}
use Rattle.tool_questions.proofs.StateLemmas.{no_text_is_read}
use Rattle.tool_questions.proofs.resume.read_state.Goals as goal

pub returns-in-Ok : goal.returns-in-Ok
returns-in-Ok g c =
    text_is_returned g.L.ToolLog.state_of c.args.bytes.now c.in-Ok.text.now c.of_json_text.result c.in-Ok.ensures.cases.0
    c.in-Ok.ensures.cases.1 c.of_json_text.ensures

pub returns-in-Err : goal.returns-in-Err
returns-in-Err g c = inr (no_text_is_read g.L.ToolLog.state_of c.args.bytes.now c.in-Err.ensures.cases.0)
