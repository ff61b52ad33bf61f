use Rattle.warg_transparency.proofs.RegistryProofs.{proves_beginning}
use Rattle.warg_transparency.proofs.registry_trees.RegistryTrees.consistency.Goals as goal

pub returns-clause-proves : goal.returns-clause-proves
returns-clause-proves c = rw (← c.self.view_is) (proves_beginning c.self.inside.leaves.items c.self.inside.log c.self.invariant.is_log c.args.first c.consistency.result c.consistency.ensures.path c.consistency.ensures.verifies)
