use Rattle.warg_transparency.proofs.RegistryProofs.{proves_leaf}
use Rattle.warg_transparency.proofs.registry_trees.RegistryTrees.inclusion.Goals as goal

pub returns-clause-proves : goal.returns-clause-proves
returns-clause-proves c = rw (← c.self.view_is) (proves_leaf c.self.inside.leaves.items c.self.inside.log c.self.invariant.is_log c.args.index c.inclusion.result c.inclusion.ensures.path c.inclusion.ensures.verifies)
