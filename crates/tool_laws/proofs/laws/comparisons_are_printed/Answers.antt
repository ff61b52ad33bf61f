use Rattle.tool_laws.proofs.ViewLemmas.{views_clean}
use Rattle.tool_laws.proofs.laws.comparisons_are_printed.Goals as goal

pub returns : goal.returns
returns c = views_clean
