use Rattle.std.proofs.Common.{◌≡◌, ◌+◌, ◌-◌, true, false, suc, Some, sym, ◌∙◌, ap, arith}
use Rattle.sha2.specs.Sha256.{sha256}
use Rattle.warg_merkle.specs.SparseMap.Maps.{is_right}
use Rattle.warg_merkle.specs.SparseTree.Nodes.{way_from}
use Rattle.warg_merkle.specs.SparseTree.Stored.{value_at}
use Rattle.warg_merkle.proofs.SparseTreeLemmas.Open.{above, inside, hashed_left, hashed_right, none_there, value_none, value_leaf, value_left, value_right}
use Rattle.warg_merkle.proofs.sparse_tree.node.Node.+get.Goals as goal

pub returns-in-Some : goal.returns-in-Some
returns-in-Some t c = sym (none_there sha256 c.args.self.now c.args.depth c.in-Some.field-0 c.args.key.now c.requires.hashed c.in-Some.ensures)

pub returns-in-Empty : goal.returns-in-Empty
returns-in-Empty t c = sym (value_none c.args.self.now c.args.depth c.args.key.now c.in-Empty.is)

pub returns-in-Leaf : goal.returns-in-Leaf
returns-in-Leaf t c = ap (λ v. Some v) (c.as_slice.ensures.value ∙ ap (λ l. l.value.items) c.deref.ensures) ∙ sym (value_leaf c.args.self.now c.args.depth c.args.key.now c.requires.in_tree c.in-Leaf.leaf c.in-Leaf.is c.in_default.ensures)

pub is_right-requires : goal.is_right-requires
is_right-requires t c = omega (arith, inside sha256 c.args.self.now c.args.depth c.in-Branch.branch c.in-Branch.is c.requires.hashed, ap (λ v. v.depth) c.deref-in-Branch.ensures)

pub overflow_add-at : goal.overflow_add-at
overflow_add-at t c = omega (arith, inside sha256 c.args.self.now c.args.depth c.in-Branch.branch c.in-Branch.is c.requires.hashed, ap (λ v. v.depth) c.deref-in-Branch.ensures)

pub get-requires : goal.get-requires
get-requires t c =
    let b = c.in-Branch.branch in
    let low = above sha256 c.args.self.now c.args.depth b c.in-Branch.is c.requires.hashed in
    let high = inside sha256 c.args.self.now c.args.depth b c.in-Branch.is c.requires.hashed in
    let here : c.deref-in-Branch.result.now.depth ≡ b.value.depth = ap (λ v. v.depth) c.deref-in-Branch.ensures in
    (omega (arith, low, high, here, c.decreases), (omega (arith, high, here), rw c.deref-then-is_right.ensures (hashed_right sha256 c.args.self.now c.args.depth b (c.deref-in-Branch.result.now.depth + 1) c.in-Branch.is (omega (arith, here)) c.requires.hashed)))

pub returns-then-is_right : goal.returns-then-is_right
returns-then-is_right t c =
    let b = c.in-Branch.branch in
    let key = c.args.key.now in
    let k = c.deref-in-Branch.result.now.depth + 1 in
    let here : c.deref-in-Branch.result.now.depth ≡ b.value.depth = ap (λ v. v.depth) c.deref-in-Branch.ensures in
    let next : k ≡ suc b.value.depth = omega (arith, here) in
    let side : is_right key b.value.depth ≡ true = ap (is_right key) (sym here) ∙ sym c.if-is_right.ensures in
    c.get.ensures ∙ ap (λ v. value_at k v.right (way_from (256 - k) k key)) c.deref-then-is_right.ensures ∙ sym (value_right sha256 c.args.self.now c.args.depth k key c.requires.hashed b c.in-Branch.is next c.in_default.ensures side)

pub overflow_add-at-else-is_right : goal.overflow_add-at-else-is_right
overflow_add-at-else-is_right t c = omega (arith, inside sha256 c.args.self.now c.args.depth c.in-Branch.branch c.in-Branch.is c.requires.hashed, ap (λ v. v.depth) c.deref-in-Branch.ensures)

pub get-requires-else-is_right : goal.get-requires-else-is_right
get-requires-else-is_right t c =
    let b = c.in-Branch.branch in
    let low = above sha256 c.args.self.now c.args.depth b c.in-Branch.is c.requires.hashed in
    let high = inside sha256 c.args.self.now c.args.depth b c.in-Branch.is c.requires.hashed in
    let here : c.deref-in-Branch.result.now.depth ≡ b.value.depth = ap (λ v. v.depth) c.deref-in-Branch.ensures in
    (omega (arith, low, high, here, c.decreases), (omega (arith, high, here), rw c.deref-else-is_right.ensures (hashed_left sha256 c.args.self.now c.args.depth b (c.deref-in-Branch.result.now.depth + 1) c.in-Branch.is (omega (arith, here)) c.requires.hashed)))

pub returns-else-is_right : goal.returns-else-is_right
returns-else-is_right t c =
    let b = c.in-Branch.branch in
    let key = c.args.key.now in
    let k = c.deref-in-Branch.result.now.depth + 1 in
    let here : c.deref-in-Branch.result.now.depth ≡ b.value.depth = ap (λ v. v.depth) c.deref-in-Branch.ensures in
    let next : k ≡ suc b.value.depth = omega (arith, here) in
    let side : is_right key b.value.depth ≡ false = ap (is_right key) (sym here) ∙ sym c.if-is_right.ensures in
    c.get-else-is_right.ensures ∙ ap (λ v. value_at k v.left (way_from (256 - k) k key)) c.deref-else-is_right.ensures ∙ sym (value_left sha256 c.args.self.now c.args.depth k key c.requires.hashed b c.in-Branch.is next c.in_default.ensures side)
