use Rattle.tool_layout.proofs.LayoutLemmas.{shown-chain_layout}
use Rattle.tool_layout.proofs.laws.chain_is_printable.Goals as goal

pub returns : goal.returns
returns c = λ look text named shown. shown-chain_layout look named text shown
