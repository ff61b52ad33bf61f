use Rattle.tool_laws.proofs.RequestLemmas.{shown_clean}
use Rattle.tool_laws.proofs.laws.shown_logs_are_printed.Goals as goal

pub returns : goal.returns
returns c = shown_clean
