use Rattle.std.proofs.Common.{◌≡◌, ◌-◌, ◌≤◌}
use Rattle.sha2.specs.Sha256.{sha256}
use Rattle.warg_merkle.specs.SparseTree.Nodes.{way_from}
use Rattle.warg_merkle.specs.SparseTree.Compressed.{root_above}
use Rattle.warg_merkle.proofs.sparse_tree.edges.root_above.Given as goal

abbrev pub invariant-loop-at : goal.invariant-loop-at
invariant-loop-at l = record {
  low : l.depth ≤ l.at;
  high : l.at ≤ l.fn.from;
  root : l.root ≡ root_above sha256 (256 - l.fn.from) (way_from (l.fn.from - l.at) l.at l.key) l.fn.root;
}

abbrev pub decreases-loop-at : goal.decreases-loop-at
decreases-loop-at l = l.at
