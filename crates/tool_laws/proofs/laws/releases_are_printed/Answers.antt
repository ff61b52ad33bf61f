use Rattle.tool_laws.proofs.RequestLemmas.{latest_clean}
use Rattle.tool_laws.proofs.laws.releases_are_printed.Goals as goal

pub returns : goal.returns
returns c = latest_clean
