use Rattle.std.proofs.Common.{◌≡◌, ◌-◌, ◌≤◌}
use Rattle.sha2.specs.Sha256.{sha256}
use Rattle.warg_merkle.specs.SparseMap.Maps.{empty_root}
use Rattle.warg_merkle.specs.SparseTree.Nodes.{empty_roots}
use Rattle.warg_merkle.proofs.sparse_tree.empties.empty_roots.Given as goal

abbrev pub invariant-loop-height : goal.invariant-loop-height
invariant-loop-height l = (l.height ≤ 257) × (l.root ≡ empty_root sha256 l.height) × (l.roots.items ≡ empty_roots sha256 l.height)

abbrev pub decreases-loop-height : goal.decreases-loop-height
decreases-loop-height l = 257 - l.height
