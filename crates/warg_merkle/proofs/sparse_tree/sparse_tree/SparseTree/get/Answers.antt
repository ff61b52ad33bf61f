use Rattle.std.proofs.Common.{◌∙◌, ap}
use Rattle.warg_merkle.specs.SparseTree.Stored.{value_at}
use Rattle.warg_merkle.specs.SparseTree.SparseTree.{map_of}
use Rattle.warg_merkle.proofs.SparseTreeLemmas.Ways.{whole_way}
use Rattle.warg_merkle.proofs.sparse_tree.sparse_tree.SparseTree.get.Goals as goal

pub returns : goal.returns
unfolding map_of
returns c = c.get.ensures ∙ ap (value_at 0 c.args.self.now.node) (whole_way c.args.key.now)
