use Rattle.std.proofs.Common.{◌≡◌, ◌≤◌}
use Rattle.sha2.specs.Sha256.{sha256}
use Rattle.warg_merkle.specs.Trees.{climb}
use Rattle.warg_merkle.specs.SparseMap.Maps.{sides_up}
use Rattle.warg_merkle.proofs.sparse_map.entries.climb.Given as goal

abbrev pub invariant-loop-depth : goal.invariant-loop-depth
invariant-loop-depth l = (l.depth ≤ 256) × (climb sha256 (sides_up l.depth l.key) l.rest l.hash ≡ climb sha256 (sides_up 256 l.fn.key) l.fn.path l.fn.from)

abbrev pub decreases-loop-depth : goal.decreases-loop-depth
decreases-loop-depth l = l.depth
