use Rattle.std.proofs.Common.{refl}
use Rattle.warg_merkle.specs.SparseTree.Stored.{tree_at, leaf_count, IsHashed}
use Rattle.warg_merkle.specs.SparseTree.Compressed.{values_in}
use Rattle.warg_merkle.specs.SparseTree.SparseTree.{map_of}
use Rattle.warg_merkle.proofs.sparse_tree.sparse_tree.SparseTree.new.Goals as goal

pub invariant_of-result : goal.invariant_of-result
unfolding IsHashed leaf_count
invariant_of-result c = record { table = c.in_ok-empty_roots.ensures; hashed = tt; counted = refl }

pub returns : goal.returns
unfolding map_of tree_at values_in
returns c = λ way. refl
