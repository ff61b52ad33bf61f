use Rattle.std.proofs.Common.{arith}
use Rattle.warg_transparency.proofs.RegistryTreesKept.{log_more}
use Rattle.warg_transparency.proofs.registry_trees.log_of.Goals as goal

pub loop-leaf-preserved : goal.loop-leaf-preserved
loop-leaf-preserved c = (omega arith, log_more c.args.leaves.now c.loop-leaf.leaf-index _ c.loop-leaf.log c.push.new.self (omega arith) c.loop-leaf.invariant.1 c.in_ok-push.ensures.ok)
