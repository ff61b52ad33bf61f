use Rattle.tool_laws.proofs.CheckpointLemmas.{statement_clean}
use Rattle.tool_laws.proofs.laws.statements_are_printed.Goals as goal

pub returns : goal.returns
returns c = statement_clean
