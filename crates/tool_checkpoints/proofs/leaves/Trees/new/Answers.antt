use Rattle.tool_checkpoints.proofs.RegistryLemmas.{no_trees}
use Rattle.tool_checkpoints.proofs.leaves.Trees.new.Goals as goal

pub returns : goal.returns
returns c = no_trees _ _ c.new.ensures c.new-2.ensures.items
