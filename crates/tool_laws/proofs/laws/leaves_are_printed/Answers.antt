use Rattle.tool_laws.proofs.ViewLemmas.{leaf_clean}
use Rattle.tool_laws.proofs.laws.leaves_are_printed.Goals as goal

pub returns : goal.returns
returns c = leaf_clean
