use Rattle.std.proofs.Common.{◌-◌, ◌≤◌}
use Rattle.warg_merkle.specs.SparseTree.Stored.{AreAlike}
use Rattle.warg_merkle.proofs.sparse_tree.edges.parting.Given as goal

abbrev pub invariant-loop-at : goal.invariant-loop-at
invariant-loop-at l = record {
  from : l.fn.depth ≤ l.at;
  alike : AreAlike l.fn.depth l.at l.key l.other;
}

abbrev pub decreases-loop-at : goal.decreases-loop-at
decreases-loop-at l = l.end - l.at
