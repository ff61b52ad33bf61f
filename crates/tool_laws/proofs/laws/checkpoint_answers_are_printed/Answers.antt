use Rattle.tool_laws.proofs.SignedLemmas.{checkpoint_clean}
use Rattle.tool_laws.proofs.laws.checkpoint_answers_are_printed.Goals as goal

pub returns : goal.returns
returns c = checkpoint_clean
