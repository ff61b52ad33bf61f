use Rattle.tool_layout.proofs.NameLemmas.{shown-names}
use Rattle.tool_layout.proofs.laws.names_are_printable.Goals as goal

pub returns : goal.returns
returns c = λ text. shown-names text
