use Rattle.tool_laws.proofs.ObjectLemmas.{json_clean}
use Rattle.tool_laws.proofs.laws.json_is_printed.Goals as goal

pub returns : goal.returns
returns c = json_clean
