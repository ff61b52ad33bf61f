use Rattle.tool_layout.proofs.LineLemmas.{length-chain_lines}
use Rattle.tool_layout.proofs.laws.chain_keeps_lines.Goals as goal

pub returns : goal.returns
returns c = λ look place text_lines. length-chain_lines look place text_lines
