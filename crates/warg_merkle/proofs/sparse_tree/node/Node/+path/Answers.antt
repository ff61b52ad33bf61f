use Rattle.std.proofs.Common.{◌≡◌, ◌+◌, ◌-◌, ◌++◌, ◌∷◌, [], true, false, drop, suc, sym, ◌∙◌, ap, arith}
use Rattle.sha2.specs.Sha256.{sha256}
use Rattle.warg_merkle.specs.SparseMap.Maps.{is_right, map_path}
use Rattle.warg_merkle.specs.SparseTree.Nodes.{empty_roots, way_from}
use Rattle.warg_merkle.specs.SparseTree.Stored.{value_at}
use Rattle.warg_merkle.proofs.SparseTreeLemmas.Open.{above, inside, hashed_left, hashed_right, hashed_there, leaves_from, leaves_inside, path_at, path_nothing, path_leaf, path_in_left, path_in_right}
use Rattle.warg_merkle.proofs.sparse_tree.node.Node.+path.Goals as goal

pub overflow_add-at : goal.overflow_add-at
overflow_add-at t c = omega (arith, leaves_inside sha256 c.args.self.now c.args.depth c.in-Some.at c.args.key.now c.requires.hashed c.in-Some.ensures)

pub root-requires-clause-in_tree : goal.root-requires-clause-in_tree
root-requires-clause-in_tree t c = omega (arith, leaves_inside sha256 c.args.self.now c.args.depth c.in-Some.at c.args.key.now c.requires.hashed c.in-Some.ensures)

pub root-requires-clause-hashed : goal.root-requires-clause-hashed
root-requires-clause-hashed t c = hashed_there sha256 c.args.self.now c.args.depth c.in-Some.at (c.in-Some.at + 1) c.args.key.now c.requires.hashed c.in-Some.ensures (omega arith)

pub path_beside-requires-clause-above : goal.path_beside-requires-clause-above
path_beside-requires-clause-above t c = leaves_from sha256 c.args.self.now c.args.depth c.in-Some.at c.args.key.now c.requires.hashed c.in-Some.ensures

pub path_beside-requires-clause-in_tree : goal.path_beside-requires-clause-in_tree
path_beside-requires-clause-in_tree t c = leaves_inside sha256 c.args.self.now c.args.depth c.in-Some.at c.args.key.now c.requires.hashed c.in-Some.ensures

pub returns-in-Some : goal.returns-in-Some
returns-in-Some t c = rw (sym (path_at sha256 c.args.self.now c.args.depth c.in-Some.at c.args.key.now c.requires.hashed c.in-Some.ensures (c.in-Some.at + 1) c.root.result (omega arith) c.root.ensures)) at c.path_beside.ensures

pub returns-in-Empty : goal.returns-in-Empty
returns-in-Empty t c = rw (c.row.ensures ∙ sym (path_nothing c.args.self.now c.args.depth c.args.key.now c.in-Empty.is sha256)) at c.from_slice.ensures.items

pub returns-in-Leaf : goal.returns-in-Leaf
returns-in-Leaf t c = rw (c.row-in-Leaf.ensures ∙ sym (path_leaf c.args.self.now c.args.depth c.args.key.now c.requires.in_tree c.in-Leaf.field-0 c.in-Leaf.is c.in_default.ensures sha256)) at c.from_slice-in-Leaf.ensures.items

pub is_right-requires : goal.is_right-requires
is_right-requires t c = omega (arith, inside sha256 c.args.self.now c.args.depth c.in-Branch.branch c.in-Branch.is c.requires.hashed, ap (λ v. v.depth) c.deref.ensures)

pub overflow_add-at-then-is_right : goal.overflow_add-at-then-is_right
overflow_add-at-then-is_right t c = omega (arith, inside sha256 c.args.self.now c.args.depth c.in-Branch.branch c.in-Branch.is c.requires.hashed, ap (λ v. v.depth) c.deref.ensures)

pub path-requires : goal.path-requires
path-requires t c =
    let b = c.in-Branch.branch in
    let low = above sha256 c.args.self.now c.args.depth b c.in-Branch.is c.requires.hashed in
    let high = inside sha256 c.args.self.now c.args.depth b c.in-Branch.is c.requires.hashed in
    let here : c.deref.result.now.depth ≡ b.value.depth = ap (λ v. v.depth) c.deref.ensures in
    (omega (arith, low, high, here, c.decreases), (omega (arith, high, here), (rw c.deref-then-is_right.ensures (hashed_right sha256 c.args.self.now c.args.depth b (c.deref.result.now.depth + 1) c.in-Branch.is (omega (arith, here)) c.requires.hashed), c.requires.empties)))

pub overflow_sub-at : goal.overflow_sub-at
overflow_sub-at t c = omega (arith, inside sha256 c.args.self.now c.args.depth c.in-Branch.branch c.in-Branch.is c.requires.hashed, ap (λ v. v.depth) c.deref.ensures)

pub row-requires-then-is_right-clause-order : goal.row-requires-then-is_right-clause-order
row-requires-then-is_right-clause-order t c = omega (arith, above sha256 c.args.self.now c.args.depth c.in-Branch.branch c.in-Branch.is c.requires.hashed, ap (λ v. v.depth) c.deref.ensures)

pub returns-in_ok-extend_from_slice-in-Branch : goal.returns-in_ok-extend_from_slice-in-Branch
returns-in_ok-extend_from_slice-in-Branch t c =
    let node = c.args.self.now in
    let d = c.args.depth in
    let key = c.args.key.now in
    let b = c.in-Branch.branch in
    let k = c.deref.result.now.depth + 1 in
    let here : c.deref.result.now.depth ≡ b.value.depth = ap (λ v. v.depth) c.deref.ensures in
    let next : k ≡ suc b.value.depth = omega (arith, here) in
    let side : is_right key b.value.depth ≡ true = ap (is_right key) (sym here) ∙ sym c.if-is_right.ensures in
    let way = way_from (256 - k) k key in
    let path = map_path sha256 (value_at k b.value.right) way in
    let row : c.row-then-is_right.result.now ≡ drop (256 - b.value.depth) (empty_roots sha256 (256 - d)) = c.row-then-is_right.ensures ∙ ap (λ n. drop (256 - n) (empty_roots sha256 (256 - d))) here in
    c.in_ok-extend_from_slice-in-Branch.ensures.items
    ∙ ap (λ ps. ps ++ c.row-then-is_right.result.now) (c.in_ok-push-in-Branch.ensures.items ∙ ap (λ ps. ps ++ c.deref-then-is_right-2.result.now.left_root ∷ []) (c.in_ok-path-in-Branch.ensures ∙ ap (λ v. map_path sha256 (value_at k v.right) way) c.deref-then-is_right.ensures) ∙ ap (λ v. path ++ v.left_root ∷ []) c.deref-then-is_right-2.ensures)
    ∙ ap (λ r. (path ++ b.value.left_root ∷ []) ++ r) row
    ∙ sym (path_in_right sha256 node d k key c.requires.hashed b c.in-Branch.is next c.in_default.ensures side)

pub overflow_add-at-else-is_right : goal.overflow_add-at-else-is_right
overflow_add-at-else-is_right t c = omega (arith, inside sha256 c.args.self.now c.args.depth c.in-Branch.branch c.in-Branch.is c.requires.hashed, ap (λ v. v.depth) c.deref.ensures)

pub path-requires-else-is_right : goal.path-requires-else-is_right
path-requires-else-is_right t c =
    let b = c.in-Branch.branch in
    let low = above sha256 c.args.self.now c.args.depth b c.in-Branch.is c.requires.hashed in
    let high = inside sha256 c.args.self.now c.args.depth b c.in-Branch.is c.requires.hashed in
    let here : c.deref.result.now.depth ≡ b.value.depth = ap (λ v. v.depth) c.deref.ensures in
    (omega (arith, low, high, here, c.decreases), (omega (arith, high, here), (rw c.deref-else-is_right.ensures (hashed_left sha256 c.args.self.now c.args.depth b (c.deref.result.now.depth + 1) c.in-Branch.is (omega (arith, here)) c.requires.hashed), c.requires.empties)))

pub overflow_sub-at-else-is_right : goal.overflow_sub-at-else-is_right
overflow_sub-at-else-is_right t c = omega (arith, inside sha256 c.args.self.now c.args.depth c.in-Branch.branch c.in-Branch.is c.requires.hashed, ap (λ v. v.depth) c.deref.ensures)

pub row-requires-else-is_right-clause-order : goal.row-requires-else-is_right-clause-order
row-requires-else-is_right-clause-order t c = omega (arith, above sha256 c.args.self.now c.args.depth c.in-Branch.branch c.in-Branch.is c.requires.hashed, ap (λ v. v.depth) c.deref.ensures)

pub returns-in_ok-extend_from_slice-in-Branch-2 : goal.returns-in_ok-extend_from_slice-in-Branch-2
returns-in_ok-extend_from_slice-in-Branch-2 t c =
    let node = c.args.self.now in
    let d = c.args.depth in
    let key = c.args.key.now in
    let b = c.in-Branch.branch in
    let k = c.deref.result.now.depth + 1 in
    let here : c.deref.result.now.depth ≡ b.value.depth = ap (λ v. v.depth) c.deref.ensures in
    let next : k ≡ suc b.value.depth = omega (arith, here) in
    let side : is_right key b.value.depth ≡ false = ap (is_right key) (sym here) ∙ sym c.if-is_right.ensures in
    let way = way_from (256 - k) k key in
    let path = map_path sha256 (value_at k b.value.left) way in
    let row : c.row-else-is_right.result.now ≡ drop (256 - b.value.depth) (empty_roots sha256 (256 - d)) = c.row-else-is_right.ensures ∙ ap (λ n. drop (256 - n) (empty_roots sha256 (256 - d))) here in
    c.in_ok-extend_from_slice-in-Branch-2.ensures.items
    ∙ ap (λ ps. ps ++ c.row-else-is_right.result.now) (c.in_ok-push-in-Branch-2.ensures.items ∙ ap (λ ps. ps ++ c.deref-else-is_right-2.result.now.right_root ∷ []) (c.in_ok-path-in-Branch-2.ensures ∙ ap (λ v. map_path sha256 (value_at k v.left) way) c.deref-else-is_right.ensures) ∙ ap (λ v. path ++ v.right_root ∷ []) c.deref-else-is_right-2.ensures)
    ∙ ap (λ r. (path ++ b.value.right_root ∷ []) ++ r) row
    ∙ sym (path_in_left sha256 node d k key c.requires.hashed b c.in-Branch.is next c.in_default.ensures side)
