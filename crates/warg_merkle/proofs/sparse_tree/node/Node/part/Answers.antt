use Rattle.std.proofs.Common.{◌≡◌, ◌+◌, ◌-◌, ◌≤◌, suc, refl, sym, ◌∙◌, ap, arith}
use Rattle.sha2.specs.Sha256.{sha256}
use Rattle.warg_merkle.specs.Trees.{leaf_input}
use Rattle.warg_merkle.specs.SparseMap.Maps.{map_root}
use Rattle.warg_merkle.specs.declared.sparse_tree.node.Node.TheVariants.{Leaf}
use Rattle.warg_merkle.specs.SparseTree.Nodes.{way_from}
use Rattle.warg_merkle.specs.SparseTree.Compressed.{root_above}
use Rattle.warg_merkle.specs.SparseTree.Stored.{value_at, IsHashed}
use Rattle.warg_merkle.proofs.SparseTreeLemmas.Open.{hashed_leaf, hashed_branch, hashed_there, leaves_from, leaves_inside, none_there, leaf_below, root_leaf, sets_there_left, sets_there_right, count_on_left, count_on_right}
use Rattle.warg_merkle.proofs.sparse_tree.node.Node.part.Goals as goal

pub overflow_add-at : goal.overflow_add-at
overflow_add-at c = omega (arith, leaves_inside sha256 c.args.self.now c.args.depth c.args.at c.args.key.now c.requires.hashed c.requires.leaves)

pub root-beside-requires-clause-in_tree : goal.root-beside-requires-clause-in_tree
root-beside-requires-clause-in_tree c = omega (arith, leaves_inside sha256 c.args.self.now c.args.depth c.args.at c.args.key.now c.requires.hashed c.requires.leaves)

pub overflow_add-at-2 : goal.overflow_add-at-2
overflow_add-at-2 c = omega (arith, leaves_inside sha256 c.args.self.now c.args.depth c.args.at c.args.key.now c.requires.hashed c.requires.leaves)

pub root-root-requires-clause-in_tree : goal.root-root-requires-clause-in_tree
root-root-requires-clause-in_tree c = omega (arith, leaves_inside sha256 c.args.self.now c.args.depth c.args.at c.args.key.now c.requires.hashed c.requires.leaves)

pub root-beside-requires-clause-hashed : goal.root-beside-requires-clause-hashed
root-beside-requires-clause-hashed c = hashed_there sha256 c.args.self.now c.args.depth c.args.at (c.args.at + 1) c.args.key.now c.requires.hashed c.requires.leaves (omega arith)

pub returns-in_err-new-clause-none : goal.returns-in_err-new-clause-none
returns-in_err-new-clause-none c = none_there sha256 c.args.self.now c.args.depth c.args.at c.args.key.now c.requires.hashed c.requires.leaves

pub returns-in_err-branch-clause-none : goal.returns-in_err-branch-clause-none
returns-in_err-branch-clause-none c = none_there sha256 c.args.self.now c.args.depth c.args.at c.args.key.now c.requires.hashed c.requires.leaves

pub returns-then-is_right-clause-none : goal.returns-then-is_right-clause-none
returns-then-is_right-clause-none c = none_there sha256 c.args.self.now c.args.depth c.args.at c.args.key.now c.requires.hashed c.requires.leaves

pub returns-else-is_right-clause-none : goal.returns-else-is_right-clause-none
returns-else-is_right-clause-none c = none_there sha256 c.args.self.now c.args.depth c.args.at c.args.key.now c.requires.hashed c.requires.leaves

pub is_right-requires : goal.is_right-requires
is_right-requires c = leaves_inside sha256 c.args.self.now c.args.depth c.args.at c.args.key.now c.requires.hashed c.requires.leaves

pub returns-then-is_right-clause-hashed : goal.returns-then-is_right-clause-hashed
returns-then-is_right-clause-hashed c =
    let node = c.args.self.now in
    let d = c.args.depth in
    let at = c.args.at in
    let key = c.args.key.now in
    let leaf = c.in_ok-new.field-0 in
    let ok = c.in_ok-new.ensures.ok in
    let made = c.deref_mut.ensures.value ∙ c.in_ok-branch.ensures.ok in
    let here : c.fill.new.self.depth ≡ at = c.fill.ensures.depth ∙ ap (λ v. v.depth) made ∙ c.new-2.ensures.depth in
    let beside : c.fill.new.self.left ≡ node = c.fill.ensures.left ∙ c.replace-node.ensures.value in
    let own : c.fill.new.self.right ≡ Leaf leaf = c.fill.ensures.right in
    let k = at + 1 in
    let from : d ≤ at = leaves_from sha256 c.args.self.now c.args.depth c.args.at c.args.key.now c.requires.hashed c.requires.leaves in
    let high = leaves_inside sha256 c.args.self.now c.args.depth c.args.at c.args.key.now c.requires.hashed c.requires.leaves in
    let low_k : k ≤ 256 = omega (arith, high) in
    let left_is : c.fill.new.self.left_root ≡ map_root sha256 (256 - k) (value_at k c.fill.new.self.left) = c.fill.ensures.left_root ∙ c.root-beside.ensures ∙ ap (λ n. map_root sha256 (256 - k) (value_at k n)) (sym beside) in
    let right_is : c.fill.new.self.right_root ≡ map_root sha256 (256 - k) (value_at k c.fill.new.self.right) = c.fill.ensures.right_root ∙ c.root-root.ensures ∙ ap (λ l. root_above sha256 0 (way_from (256 - k) k l.key) (sha256 (leaf_input l.value.items))) (sym ok) ∙ root_leaf sha256 (Leaf leaf) k low_k leaf refl ∙ ap (λ n. map_root sha256 (256 - k) (value_at k n)) (sym own) in
    let left_hashed : IsHashed sha256 k c.fill.new.self.left = rw beside (hashed_there sha256 node d at k key c.requires.hashed c.requires.leaves (omega arith)) in
    let right_hashed : IsHashed sha256 k c.fill.new.self.right = rw own (hashed_leaf sha256 (Leaf leaf) k leaf refl (rw ok c.new-leaf.ensures.kept)) in
    hashed_branch sha256 _ d _ k refl (omega (arith, here)) (omega (arith, here, high)) (omega (arith, here)) left_is right_is left_hashed right_hashed

pub returns-then-is_right-clause-sets : goal.returns-then-is_right-clause-sets
returns-then-is_right-clause-sets c =
    let node = c.args.self.now in
    let d = c.args.depth in
    let at = c.args.at in
    let key = c.args.key.now in
    let leaf = c.in_ok-new.field-0 in
    let ok = c.in_ok-new.ensures.ok in
    let made = c.deref_mut.ensures.value ∙ c.in_ok-branch.ensures.ok in
    let here : c.fill.new.self.depth ≡ at = c.fill.ensures.depth ∙ ap (λ v. v.depth) made ∙ c.new-2.ensures.depth in
    let beside : c.fill.new.self.left ≡ node = c.fill.ensures.left ∙ c.replace-node.ensures.value in
    let own : c.fill.new.self.right ≡ Leaf leaf = c.fill.ensures.right in
    let same : c.fill.new.self.key ≡ key = c.fill.ensures.key ∙ ap (λ v. v.key) made ∙ c.new-2.ensures.key in
    let v = c.args.value.items in
    let map = ap (λ n. value_at (suc at) n) own ∙ leaf_below (Leaf leaf) leaf at key v refl (ap (λ l. l.key) ok ∙ c.new-leaf.ensures.key) (ap (λ l. l.value.items) ok ∙ c.new-leaf.ensures.value) in
    sets_there_right sha256 node d at key c.requires.hashed c.requires.leaves _ _ v refl same here (sym c.if-is_right.ensures) beside map

pub returns-then-is_right-clause-count : goal.returns-then-is_right-clause-count
returns-then-is_right-clause-count c =
    let node = c.args.self.now in
    let d = c.args.depth in
    let at = c.args.at in
    let key = c.args.key.now in
    let leaf = c.in_ok-new.field-0 in
    let ok = c.in_ok-new.ensures.ok in
    let made = c.deref_mut.ensures.value ∙ c.in_ok-branch.ensures.ok in
    let here : c.fill.new.self.depth ≡ at = c.fill.ensures.depth ∙ ap (λ v. v.depth) made ∙ c.new-2.ensures.depth in
    let beside : c.fill.new.self.left ≡ node = c.fill.ensures.left ∙ c.replace-node.ensures.value in
    let own : c.fill.new.self.right ≡ Leaf leaf = c.fill.ensures.right in
    count_on_right node _ _ leaf refl beside own

pub returns-else-is_right-clause-hashed : goal.returns-else-is_right-clause-hashed
returns-else-is_right-clause-hashed c =
    let node = c.args.self.now in
    let d = c.args.depth in
    let at = c.args.at in
    let key = c.args.key.now in
    let leaf = c.in_ok-new.field-0 in
    let ok = c.in_ok-new.ensures.ok in
    let made = c.deref_mut-else-is_right.ensures.value ∙ c.in_ok-branch.ensures.ok in
    let here : c.fill-else-is_right.new.self.depth ≡ at = c.fill-else-is_right.ensures.depth ∙ ap (λ v. v.depth) made ∙ c.new-2.ensures.depth in
    let beside : c.fill-else-is_right.new.self.right ≡ node = c.fill-else-is_right.ensures.right ∙ c.replace-node.ensures.value in
    let own : c.fill-else-is_right.new.self.left ≡ Leaf leaf = c.fill-else-is_right.ensures.left in
    let k = at + 1 in
    let from : d ≤ at = leaves_from sha256 c.args.self.now c.args.depth c.args.at c.args.key.now c.requires.hashed c.requires.leaves in
    let high = leaves_inside sha256 c.args.self.now c.args.depth c.args.at c.args.key.now c.requires.hashed c.requires.leaves in
    let low_k : k ≤ 256 = omega (arith, high) in
    let left_is : c.fill-else-is_right.new.self.left_root ≡ map_root sha256 (256 - k) (value_at k c.fill-else-is_right.new.self.left) = c.fill-else-is_right.ensures.left_root ∙ c.root-root.ensures ∙ ap (λ l. root_above sha256 0 (way_from (256 - k) k l.key) (sha256 (leaf_input l.value.items))) (sym ok) ∙ root_leaf sha256 (Leaf leaf) k low_k leaf refl ∙ ap (λ n. map_root sha256 (256 - k) (value_at k n)) (sym own) in
    let right_is : c.fill-else-is_right.new.self.right_root ≡ map_root sha256 (256 - k) (value_at k c.fill-else-is_right.new.self.right) = c.fill-else-is_right.ensures.right_root ∙ c.root-beside.ensures ∙ ap (λ n. map_root sha256 (256 - k) (value_at k n)) (sym beside) in
    let left_hashed : IsHashed sha256 k c.fill-else-is_right.new.self.left = rw own (hashed_leaf sha256 (Leaf leaf) k leaf refl (rw ok c.new-leaf.ensures.kept)) in
    let right_hashed : IsHashed sha256 k c.fill-else-is_right.new.self.right = rw beside (hashed_there sha256 node d at k key c.requires.hashed c.requires.leaves (omega arith)) in
    hashed_branch sha256 _ d _ k refl (omega (arith, here)) (omega (arith, here, high)) (omega (arith, here)) left_is right_is left_hashed right_hashed

pub returns-else-is_right-clause-sets : goal.returns-else-is_right-clause-sets
returns-else-is_right-clause-sets c =
    let node = c.args.self.now in
    let d = c.args.depth in
    let at = c.args.at in
    let key = c.args.key.now in
    let leaf = c.in_ok-new.field-0 in
    let ok = c.in_ok-new.ensures.ok in
    let made = c.deref_mut-else-is_right.ensures.value ∙ c.in_ok-branch.ensures.ok in
    let here : c.fill-else-is_right.new.self.depth ≡ at = c.fill-else-is_right.ensures.depth ∙ ap (λ v. v.depth) made ∙ c.new-2.ensures.depth in
    let beside : c.fill-else-is_right.new.self.right ≡ node = c.fill-else-is_right.ensures.right ∙ c.replace-node.ensures.value in
    let own : c.fill-else-is_right.new.self.left ≡ Leaf leaf = c.fill-else-is_right.ensures.left in
    let same : c.fill-else-is_right.new.self.key ≡ key = c.fill-else-is_right.ensures.key ∙ ap (λ v. v.key) made ∙ c.new-2.ensures.key in
    let v = c.args.value.items in
    let map = ap (λ n. value_at (suc at) n) own ∙ leaf_below (Leaf leaf) leaf at key v refl (ap (λ l. l.key) ok ∙ c.new-leaf.ensures.key) (ap (λ l. l.value.items) ok ∙ c.new-leaf.ensures.value) in
    sets_there_left sha256 node d at key c.requires.hashed c.requires.leaves _ _ v refl same here (sym c.if-is_right.ensures) beside map

pub returns-else-is_right-clause-count : goal.returns-else-is_right-clause-count
returns-else-is_right-clause-count c =
    let node = c.args.self.now in
    let d = c.args.depth in
    let at = c.args.at in
    let key = c.args.key.now in
    let leaf = c.in_ok-new.field-0 in
    let ok = c.in_ok-new.ensures.ok in
    let made = c.deref_mut-else-is_right.ensures.value ∙ c.in_ok-branch.ensures.ok in
    let here : c.fill-else-is_right.new.self.depth ≡ at = c.fill-else-is_right.ensures.depth ∙ ap (λ v. v.depth) made ∙ c.new-2.ensures.depth in
    let beside : c.fill-else-is_right.new.self.right ≡ node = c.fill-else-is_right.ensures.right ∙ c.replace-node.ensures.value in
    let own : c.fill-else-is_right.new.self.left ≡ Leaf leaf = c.fill-else-is_right.ensures.left in
    count_on_left node _ _ leaf refl beside own
