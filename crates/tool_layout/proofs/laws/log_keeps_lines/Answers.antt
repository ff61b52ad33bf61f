use Rattle.tool_layout.proofs.LineLemmas.{length-log_lines}
use Rattle.tool_layout.proofs.laws.log_keeps_lines.Goals as goal

pub returns : goal.returns
returns c = λ look text_lines. length-log_lines look text_lines
