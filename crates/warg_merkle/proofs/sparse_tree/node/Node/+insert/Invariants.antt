use Rattle.std.proofs.Common.{◌-◌}
use Rattle.warg_merkle.proofs.sparse_tree.node.Node.+insert.Given as goal

abbrev pub decreases-insert : goal.decreases-insert
decreases-insert l = 257 - l.depth
