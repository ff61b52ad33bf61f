use Rattle.std.proofs.Common.{◌-◌}
use Rattle.warg_merkle.proofs.sparse_tree.node.Node.+path.Given as goal

abbrev pub decreases-path : goal.decreases-path
decreases-path l = 257 - l.depth
