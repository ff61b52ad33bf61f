-- The map that the tree stores.
use Rattle.std.specs.Prelude.{ℕ, List, Option}
use Rattle.warg_merkle.specs.Trees.{Side}
use Rattle.warg_merkle.specs.declared.sparse_tree.sparse_tree.SparseTree.{SparseTree}
use Rattle.warg_merkle.specs.SparseTree.Stored.{value_at}

-- what stands at the end of a way
unfoldable pub map_of : SparseTree → List Side → Option (List ℕ)
map_of tree = value_at 0 tree.node
