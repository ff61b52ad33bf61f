use Rattle.tool_laws.proofs.CheckpointLemmas.{proof_clean}
use Rattle.tool_laws.proofs.laws.proofs_are_printed.Goals as goal

pub returns : goal.returns
returns c = proof_clean
