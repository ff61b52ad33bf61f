use Rattle.std.proofs.Common.{◌-◌, ◌≡◌, ◌≤◌}
use Rattle.sha2.specs.Sha256.{sha256}
use Rattle.warg_merkle.specs.SparseMap.Maps.{empty_root}
use Rattle.warg_merkle.specs.SparseTree.Nodes.{empty_roots}
use Rattle.warg_listed_map.proofs.empties.empty_roots.Given as goal

abbrev pub invariant-loop-count : goal.invariant-loop-count
invariant-loop-count l = (l.count ≤ 257) × (l.next ≡ empty_root sha256 l.count) × (l.roots.items ≡ empty_roots sha256 l.count)

abbrev pub decreases-loop-count : goal.decreases-loop-count
decreases-loop-count l = 257 - l.count
