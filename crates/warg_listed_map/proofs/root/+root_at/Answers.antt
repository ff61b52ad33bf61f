use Rattle.std.proofs.Common.{◌≡◌, ◌+◌, ◌-◌, ◌∷◌, length, suc, refl, sym, ◌∙◌, ap, arith}
use Rattle.std.proofs.lemmas.Bool.{eqb-true}
use Rattle.sha2.specs.Sha256.{sha256}
use Rattle.warg_merkle.specs.Trees.{Left, Right, node_input}
use Rattle.warg_merkle.specs.SparseMap.Maps.{map_root}
use Rattle.warg_merkle.specs.SparseTree.Nodes.{way_from}
use Rattle.warg_merkle.proofs.SparseTreeLemmas.EmptyRoots.{length-empty_roots, empty_at}
use Rattle.warg_listed_map.proofs.ListedMapLemmas.{below_side, empty_map, leaf_of_latest, left_part, right_part, root_at_node}
use Rattle.warg_listed_map.proofs.root.+root_at.Goals as goal

pub bounds-empties-depth : goal.bounds-empties-depth
bounds-empties-depth t c = omega (arith, ap length c.requires.empties, length-empty_roots sha256 257)

pub returns-then-is_empty : goal.returns-then-is_empty
returns-then-is_empty t c = λ m of.
    let n = 256 - c.args.depth in
    let none : length c.args.entries.now ≡ 0 = eqb-true (length c.args.entries.now) 0 (sym c.is_empty.ensures ∙ c.if-is_empty.true) in
    empty_at sha256 c.args.empties.now n n c.requires.empties refl (omega arith)
    ∙ sym (empty_map (way_from n c.args.depth) c.args.entries.now m none of n)

pub returns-then-depth-eq256 : goal.returns-then-depth-eq256
returns-then-depth-eq256 t c = λ m of.
    leaf_of_latest (256 - c.args.depth) c.args.depth c.args.entries.now m c.latest.result (omega arith) c.latest.ensures of

pub returns : goal.returns
returns t c = λ m of.
    let d = c.args.depth in
    let n = 256 - d in
    let e = 256 - (d + 1) in
    let next : n ≡ suc e = omega arith in
    let deeper : d + 1 ≡ suc d = omega arith in
    let old = c.args.entries.now in
    let new = c.part-count.new.entries in
    let count = c.part-count.result in
    let front = c.split_at_mut-left.result.0.now in
    let back = c.split_at_mut-left.result.1.now in
    let p = c.part-count.ensures in
    let s = c.split_at_mut-left.ensures in
    c.node_hash.ensures
    ∙ ap (λ l. sha256 (node_input l c.root_at-right.result))
    (c.root_at-left.ensures (λ w. m (Left ∷ w)) (below_side n e d (d + 1) Left old front m next deeper (left_part d old new front back count p.same s.value s.front_len p.left p.right) of))
    ∙ ap (λ r. sha256 (node_input (map_root sha256 e (λ w. m (Left ∷ w))) r))
    (c.root_at-right.ensures (λ w. m (Right ∷ w)) (below_side n e d (d + 1) Right old back m next deeper (right_part d old new front back count p.same s.value s.front_len p.left p.right) of))
    ∙ sym (root_at_node n e m next)
