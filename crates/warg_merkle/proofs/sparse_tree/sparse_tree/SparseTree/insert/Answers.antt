use Rattle.std.proofs.Common.{◌≡◌, ◌+◌, if◌then◌else◌, is_some, sym, ◌∙◌, ap, arith}
use Rattle.sha2.specs.Sha256.{sha256}
use Rattle.warg_merkle.specs.SparseMap.Maps.{way_down}
use Rattle.warg_merkle.specs.SparseTree.Nodes.{Sets, map_count}
use Rattle.warg_merkle.specs.SparseTree.Stored.{value_at}
use Rattle.warg_merkle.specs.SparseTree.SparseTree.{map_of}
use Rattle.warg_merkle.proofs.SparseTreeLemmas.Open.{count}
use Rattle.warg_merkle.proofs.SparseTreeLemmas.Ways.{whole_way}
use Rattle.warg_merkle.proofs.sparse_tree.sparse_tree.SparseTree.insert.Goals as goal
use Rattle.warg_merkle.proofs.sparse_tree.sparse_tree.SparseTree.insert.Goals.{then-is_none, else-is_none}

pub returns-clause-ok : goal.returns-clause-ok
unfolding map_of
returns-clause-ok c =
    let sets : Sets (value_at 0 c.args.self.now.node) (value_at 0 c.insert.new.self) (way_down c.args.key.now) c.args.value.items = rw (whole_way c.args.key.now) at c.in_ok-old.ensures.sets in
    elim c.if-is_none.branch [ then-is_none w ↦ rw w.self-is sets | else-is_none w ↦ rw w.self-is sets ]

pub returns-clause-old : goal.returns-clause-old
unfolding map_of
returns-clause-old c = c.in_ok-old.ensures.old ∙ ap (value_at 0 c.args.self.now.node) (whole_way c.args.key.now)

pub returns-clause-count : goal.returns-clause-count
unfolding map_of
returns-clause-count c =
    let before = count sha256 c.args.self.now.node 0 (omega arith) c.args.self.now.hashed in
    let after = count sha256 c.insert.new.self 0 (omega arith) c.in_ok-old.ensures.hashed in
    let counted : map_count 256 (value_at 0 c.insert.new.self) ≡ map_count 256 (value_at 0 c.args.self.now.node) + (if is_some c.in_ok-old.old then 0 else 1) = after ∙ c.in_ok-old.ensures.count ∙ ap (λ n. n + (if is_some c.in_ok-old.old then 0 else 1)) (sym before) in
    elim c.if-is_none.branch [ then-is_none w ↦ rw w.self-is counted | else-is_none w ↦ rw w.self-is counted ]
