use Rattle.std.proofs.Common.{◌∙◌, arith}
use Rattle.warg_merkle.specs.SparseTree.SparseTree.{map_of}
use Rattle.warg_merkle.proofs.sparse_tree.sparse_tree.SparseTree.root.Goals as goal

pub root-requires : goal.root-requires
root-requires c = record { in_tree = omega arith; hashed = c.args.self.now.hashed; empties = c.as_slice.ensures.value ∙ c.args.self.now.table }

pub returns : goal.returns
unfolding map_of
returns c = c.root.ensures
