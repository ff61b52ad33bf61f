use Rattle.tool_laws.proofs.LatestLemmas.{id_clean}
use Rattle.tool_laws.proofs.laws.ids_are_printed.Goals as goal

pub returns : goal.returns
returns c = id_clean
