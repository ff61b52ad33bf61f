use Rattle.std.proofs.Common.{◌-◌}
use Rattle.warg_merkle.proofs.sparse_tree.node.Node.+get.Given as goal

abbrev pub decreases-get : goal.decreases-get
decreases-get l = 257 - l.depth
