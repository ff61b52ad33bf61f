use Rattle.tool_laws.proofs.RequestLemmas.{asked_clean}
use Rattle.tool_laws.proofs.laws.questions_are_printed.Goals as goal

pub returns : goal.returns
returns c = asked_clean
