use Rattle.tool_layout.proofs.LayoutLemmas.{shown-log_layout}
use Rattle.tool_layout.proofs.laws.log_is_printable.Goals as goal

pub returns : goal.returns
returns c = λ look text named shown. shown-log_layout look named text shown
