use Rattle.std.proofs.Common.{◌≡◌, ◌+◌, ◌-◌, ◌++◌, ◌∷◌, [], suc, sym, ◌∙◌, ap, arith}
use Rattle.sha2.specs.Sha256.{sha256}
use Rattle.warg_merkle.specs.Trees.{Left, Right}
use Rattle.warg_merkle.specs.SparseMap.Maps.{map_path, map_root}
use Rattle.warg_merkle.specs.SparseTree.Nodes.{way_from}
use Rattle.warg_merkle.proofs.SparseTreeLemmas.Ways.{length-way_from, way_end, way_left, way_right}
use Rattle.warg_listed_map.proofs.ListedMapLemmas.{below_side, left_part, path_at_leaf, path_at_left, path_at_right, right_part}
use Rattle.warg_listed_map.proofs.proof.+path_at.Goals as goal

pub returns-then-depth-eq256-clause-path : goal.returns-then-depth-eq256-clause-path
returns-then-depth-eq256-clause-path t c = λ m of.
    let n = 256 - c.args.depth in
    c.new.ensures.items ∙ sym (path_at_leaf m (way_from n c.args.depth c.args.key.now) (way_end n c.args.depth c.args.key.now (omega arith)))

pub returns-in_ok-push-clause-path : goal.returns-in_ok-push-clause-path
returns-in_ok-push-clause-path t c = λ m of.
    let d = c.args.depth in
    let n = 256 - d in
    let e = 256 - (d + 1) in
    let next : n ≡ suc e = omega arith in
    let deeper : d + 1 ≡ suc d = omega arith in
    let key = c.args.key.now in
    let old = c.args.entries.now in
    let new = c.part-count.new.entries in
    let count = c.part-count.result in
    let front = c.split_at_mut-left.result.0.now in
    let back = c.split_at_mut-left.result.1.now in
    let p = c.part-count.ensures in
    let s = c.split_at_mut-left.ensures in
    let way = way_from e (d + 1) key in
    c.in_ok-push.ensures.items
    ∙ ap (λ ps. ps ++ c.root_at.result ∷ [])
    (c.in_ok-path.ensures.path (λ w. m (Right ∷ w)) (below_side n e d (d + 1) Right old back m next deeper (right_part d old new front back count p.same s.value s.front_len p.left p.right) of))
    ∙ ap (λ r. map_path sha256 (λ w. m (Right ∷ w)) way ++ r ∷ [])
    (c.root_at.ensures (λ w. m (Left ∷ w)) (below_side n e d (d + 1) Left old front m next deeper (left_part d old new front back count p.same s.value s.front_len p.left p.right) of)
    ∙ ap (λ k. map_root sha256 k (λ w. m (Left ∷ w))) (sym (length-way_from e (d + 1) key)))
    ∙ sym (path_at_right m (way_from n d key) way (way_right n d e (d + 1) key next deeper (sym c.if-is_right.ensures)))

pub returns-in_ok-push-2-clause-path : goal.returns-in_ok-push-2-clause-path
returns-in_ok-push-2-clause-path t c = λ m of.
    let d = c.args.depth in
    let n = 256 - d in
    let e = 256 - (d + 1) in
    let next : n ≡ suc e = omega arith in
    let deeper : d + 1 ≡ suc d = omega arith in
    let key = c.args.key.now in
    let old = c.args.entries.now in
    let new = c.part-count.new.entries in
    let count = c.part-count.result in
    let front = c.split_at_mut-left.result.0.now in
    let back = c.split_at_mut-left.result.1.now in
    let p = c.part-count.ensures in
    let s = c.split_at_mut-left.ensures in
    let way = way_from e (d + 1) key in
    c.in_ok-push-2.ensures.items
    ∙ ap (λ ps. ps ++ c.root_at-else-is_right.result ∷ [])
    (c.in_ok-path-2.ensures.path (λ w. m (Left ∷ w)) (below_side n e d (d + 1) Left old front m next deeper (left_part d old new front back count p.same s.value s.front_len p.left p.right) of))
    ∙ ap (λ r. map_path sha256 (λ w. m (Left ∷ w)) way ++ r ∷ [])
    (c.root_at-else-is_right.ensures (λ w. m (Right ∷ w)) (below_side n e d (d + 1) Right old back m next deeper (right_part d old new front back count p.same s.value s.front_len p.left p.right) of)
    ∙ ap (λ k. map_root sha256 k (λ w. m (Right ∷ w))) (sym (length-way_from e (d + 1) key)))
    ∙ sym (path_at_left m (way_from n d key) way (way_left n d e (d + 1) key next deeper (sym c.if-is_right.ensures)))
