use Rattle.tool_laws.proofs.CheckpointLemmas.{log_id_clean}
use Rattle.tool_laws.proofs.laws.log_ids_are_printed.Goals as goal

pub returns : goal.returns
returns c = log_id_clean
