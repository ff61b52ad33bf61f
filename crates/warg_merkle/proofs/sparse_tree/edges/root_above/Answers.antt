use Rattle.std.proofs.Common.{◌≡◌, ◌-◌, [], get_or, length, sym, ◌∙◌, ap, arith}
use Rattle.sha2.specs.Sha256.{sha256}
use Rattle.warg_merkle.specs.Trees.{step_input}
use Rattle.warg_merkle.specs.SparseTree.Nodes.{side_at, way_from}
use Rattle.warg_merkle.specs.SparseTree.Compressed.{root_above}
use Rattle.warg_merkle.proofs.SparseTreeLemmas.EmptyRoots.{length-empty_roots, empty_at}
use Rattle.warg_merkle.proofs.SparseTreeLemmas.Ways.{way_end, way_side, length-way_from}
use Rattle.warg_merkle.proofs.SparseTreeLemmas.Behind.{root_here, root_side}
use Rattle.warg_merkle.proofs.sparse_tree.edges.root_above.Goals as goal

pub loop-at-init : goal.loop-at-init
loop-at-init c =
    let from = c.args.from in
    record {
      low = c.requires.above;
      high = omega arith;
      root = sym (ap (λ way. root_above sha256 (256 - from) way c.args.root) (way_end (from - from) from c.args.key.now (omega arith)) ∙ root_here sha256 (256 - from) c.args.root);
    }

pub bounds-empties-at : goal.bounds-empties-at
bounds-empties-at c = omega (arith, ap length c.requires.empties, length-empty_roots sha256 257)

pub loop-at-preserved : goal.loop-at-preserved
loop-at-preserved c =
    let from = c.args.from in
    let key = c.args.key.now in
    let above = c.loop-at.at in
    let at = c.loop-at.at - 1 in
    let low = c.loop-at.invariant.low in
    let high = c.loop-at.invariant.high in
    let edge = way_from (from - above) above key in
    record {
      low = omega arith;
      high = omega arith;
      root =
          c.hash_above-root.ensures
          ∙ ap (λ r. sha256 (step_input (side_at key at) r (get_or c.args.empties.now (255 - at) []))) c.loop-at.invariant.root
          ∙ ap (λ x. sha256 (step_input (side_at key at) (root_above sha256 (256 - from) edge c.args.root) x)) (empty_at sha256 c.args.empties.now (255 - at) (255 - at) c.requires.empties (omega arith) (omega arith))
          ∙ sym (root_side sha256 (side_at key at) edge (256 - from) (255 - at) c.args.root (omega (arith, length-way_from (from - above) above key)))
          ∙ ap (λ way. root_above sha256 (256 - from) way c.args.root) (sym (way_side (from - at) at (from - above) above key (omega arith) (omega arith)));
    }

pub returns : goal.returns
returns c =
    let low = c.loop-at.invariant.low in
    let here : c.loop-at.at ≡ c.args.depth = omega arith in
    c.loop-at.invariant.root ∙ ap (λ at. root_above sha256 (256 - c.args.from) (way_from (c.args.from - at) at c.args.key.now) c.args.root) here
