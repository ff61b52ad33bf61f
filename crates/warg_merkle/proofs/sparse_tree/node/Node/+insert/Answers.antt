use Rattle.std.proofs.Common.{◌≡◌, ◌+◌, ◌-◌, true, false, if◌then◌else◌, is_some, suc, Some, refl, sym, ◌∙◌, ap, arith}
use Rattle.sha2.specs.Sha256.{sha256}
use Rattle.warg_merkle.specs.SparseMap.Maps.{is_right, map_root}
use Rattle.warg_merkle.specs.SparseTree.Nodes.{way_from, Sets}
use Rattle.warg_merkle.specs.SparseTree.Stored.{value_at, leaf_count, IsHashed}
use Rattle.warg_merkle.proofs.SparseTreeLemmas.Open.{above, inside, left_at, right_at, hashed_left, hashed_right, hashed_leaf, hashed_branch, value_none, value_leaf, value_left, value_right, sets_nothing, sets_leaf, sets_in_left, sets_in_right, count_first, count_leaves, count_left_put, count_right_put}
use Rattle.warg_merkle.proofs.sparse_tree.node.Node.+insert.Goals as goal

pub is_right-requires : goal.is_right-requires
is_right-requires t c = omega (arith, inside sha256 c.args.self.now c.args.depth c.in-Branch.branch c.in-Branch.is c.requires.hashed, ap (λ v. v.depth) c.deref.ensures)

pub returns-in_ok-new-in-Empty-clause-hashed : goal.returns-in_ok-new-in-Empty-clause-hashed
returns-in_ok-new-in-Empty-clause-hashed t c = hashed_leaf sha256 _ c.args.depth c.in_ok-new-in-Empty.field-0 refl (rw c.in_ok-new-in-Empty.ensures.ok c.new.ensures.kept)

pub returns-in_ok-new-in-Empty-clause-sets : goal.returns-in_ok-new-in-Empty-clause-sets
returns-in_ok-new-in-Empty-clause-sets t c = sets_nothing c.args.self.now c.args.depth c.args.key.now c.in-Empty.is _ c.in_ok-new-in-Empty.field-0 c.args.value.items refl (ap (λ l. l.key) c.in_ok-new-in-Empty.ensures.ok ∙ c.new.ensures.key) (ap (λ l. l.value.items) c.in_ok-new-in-Empty.ensures.ok ∙ c.new.ensures.value)

pub returns-in_ok-new-in-Empty-clause-old : goal.returns-in_ok-new-in-Empty-clause-old
returns-in_ok-new-in-Empty-clause-old t c = sym (value_none c.args.self.now c.args.depth c.args.key.now c.in-Empty.is)

pub returns-in_ok-new-in-Empty-clause-count : goal.returns-in_ok-new-in-Empty-clause-count
returns-in_ok-new-in-Empty-clause-count t c = count_first c.args.self.now _ c.in_ok-new-in-Empty.field-0 c.in-Empty.is refl

pub returns-in-Leaf-clause-hashed : goal.returns-in-Leaf-clause-hashed
returns-in-Leaf-clause-hashed t c = hashed_leaf sha256 _ c.args.depth _ refl c.put.ensures.kept

pub returns-in-Leaf-clause-sets : goal.returns-in-Leaf-clause-sets
returns-in-Leaf-clause-sets t c = sets_leaf c.args.self.now c.args.depth c.args.key.now c.requires.in_tree c.in-Leaf.leaf c.in-Leaf.is c.in_default.ensures _ _ c.args.value.items refl (c.put.ensures.key ∙ ap (λ l. l.key) c.deref_mut.ensures.value) c.put.ensures.value

pub returns-in-Leaf-clause-old : goal.returns-in-Leaf-clause-old
returns-in-Leaf-clause-old t c = ap (λ v. Some v) (c.put.ensures.old ∙ ap (λ l. l.value.items) c.deref_mut.ensures.value) ∙ sym (value_leaf c.args.self.now c.args.depth c.args.key.now c.requires.in_tree c.in-Leaf.leaf c.in-Leaf.is c.in_default.ensures)

pub returns-in-Leaf-clause-count : goal.returns-in-Leaf-clause-count
returns-in-Leaf-clause-count t c = count_leaves c.args.self.now _ c.in-Leaf.leaf _ c.in-Leaf.is refl

pub overflow_add-at : goal.overflow_add-at
overflow_add-at t c = omega (arith, inside sha256 c.args.self.now c.args.depth c.in-Branch.branch c.in-Branch.is c.requires.hashed, ap (λ v. v.depth) c.deref.ensures)

pub insert-requires : goal.insert-requires
insert-requires t c =
    let b = c.in-Branch.branch in
    let k = c.deref.result.now.depth + 1 in
    let low = above sha256 c.args.self.now c.args.depth c.in-Branch.branch c.in-Branch.is c.requires.hashed in
    let high = inside sha256 c.args.self.now c.args.depth c.in-Branch.branch c.in-Branch.is c.requires.hashed in
    let here : c.deref.result.now.depth ≡ b.value.depth = ap (λ v. v.depth) c.deref.ensures in
    let next : k ≡ suc b.value.depth = omega (arith, here) in
    (omega (arith, low, high, here, c.decreases), (omega (arith, high, here), (rw (ap (λ v. v.right) c.deref_mut-then-is_right.ensures.value) (hashed_right sha256 c.args.self.now c.args.depth b k c.in-Branch.is next c.requires.hashed), c.requires.empties)))

pub rehash_right-requires-clause-in_tree : goal.rehash_right-requires-clause-in_tree
rehash_right-requires-clause-in_tree t c = omega (arith, inside sha256 c.args.self.now c.args.depth c.in-Branch.branch c.in-Branch.is c.requires.hashed, ap (λ v. v.depth) c.deref_mut-then-is_right-2.ensures.value, ap (λ v. v.depth) c.deref_mut-then-is_right.ensures.value)

pub returns-in_ok-old-in-Branch-clause-hashed : goal.returns-in_ok-old-in-Branch-clause-hashed
returns-in_ok-old-in-Branch-clause-hashed t c =
    let b = c.in-Branch.branch in
    let k = c.deref.result.now.depth + 1 in
    let low = above sha256 c.args.self.now c.args.depth c.in-Branch.branch c.in-Branch.is c.requires.hashed in
    let high = inside sha256 c.args.self.now c.args.depth c.in-Branch.branch c.in-Branch.is c.requires.hashed in
    let here : c.deref.result.now.depth ≡ b.value.depth = ap (λ v. v.depth) c.deref.ensures in
    let next : k ≡ suc b.value.depth = omega (arith, here) in
    let child : c.rehash_right.new.self.right ≡ c.insert.new.self = c.rehash_right.ensures.right ∙ ap (λ v. v.right) c.deref_mut-then-is_right-2.ensures.value in
    let beside : c.rehash_right.new.self.left ≡ b.value.left = c.rehash_right.ensures.left ∙ ap (λ v. v.left) c.deref_mut-then-is_right-2.ensures.value ∙ ap (λ v. v.left) c.deref_mut-then-is_right.ensures.value in
    let deep : c.rehash_right.new.self.depth ≡ b.value.depth = c.rehash_right.ensures.depth ∙ ap (λ v. v.depth) c.deref_mut-then-is_right-2.ensures.value ∙ ap (λ v. v.depth) c.deref_mut-then-is_right.ensures.value in
    let again : c.deref_mut-then-is_right-2.result.now.depth + 1 ≡ k = omega (arith, here, ap (λ v. v.depth) c.deref_mut-then-is_right-2.ensures.value, ap (λ v. v.depth) c.deref_mut-then-is_right.ensures.value) in
    let left_is : c.rehash_right.new.self.left_root ≡ map_root sha256 (256 - k) (value_at k c.rehash_right.new.self.left) = c.rehash_right.ensures.left_root ∙ ap (λ v. v.left_root) c.deref_mut-then-is_right-2.ensures.value ∙ ap (λ v. v.left_root) c.deref_mut-then-is_right.ensures.value ∙ left_at sha256 c.args.self.now c.args.depth b k c.in-Branch.is next c.requires.hashed ∙ ap (λ n. map_root sha256 (256 - k) (value_at k n)) (sym beside) in
    let right_is : c.rehash_right.new.self.right_root ≡ map_root sha256 (256 - k) (value_at k c.rehash_right.new.self.right) = c.rehash_right.ensures.right_root ∙ ap (λ n. map_root sha256 (256 - n) (value_at n c.deref_mut-then-is_right-2.result.now.right)) again ∙ ap (λ n. map_root sha256 (256 - k) (value_at k n)) (sym c.rehash_right.ensures.right) in
    let left_hashed : IsHashed sha256 k c.rehash_right.new.self.left = rw beside (hashed_left sha256 c.args.self.now c.args.depth b k c.in-Branch.is next c.requires.hashed) in
    let right_hashed : IsHashed sha256 k c.rehash_right.new.self.right = rw child c.in_ok-old-in-Branch.ensures.hashed in
    hashed_branch sha256 _ c.args.depth _ k refl (omega (arith, low, deep)) (omega (arith, high, deep)) (omega (arith, here, deep)) left_is right_is left_hashed right_hashed

pub returns-in_ok-old-in-Branch-clause-sets : goal.returns-in_ok-old-in-Branch-clause-sets
returns-in_ok-old-in-Branch-clause-sets t c =
    let b = c.in-Branch.branch in
    let k = c.deref.result.now.depth + 1 in
    let low = above sha256 c.args.self.now c.args.depth c.in-Branch.branch c.in-Branch.is c.requires.hashed in
    let high = inside sha256 c.args.self.now c.args.depth c.in-Branch.branch c.in-Branch.is c.requires.hashed in
    let here : c.deref.result.now.depth ≡ b.value.depth = ap (λ v. v.depth) c.deref.ensures in
    let next : k ≡ suc b.value.depth = omega (arith, here) in
    let child : c.rehash_right.new.self.right ≡ c.insert.new.self = c.rehash_right.ensures.right ∙ ap (λ v. v.right) c.deref_mut-then-is_right-2.ensures.value in
    let beside : c.rehash_right.new.self.left ≡ b.value.left = c.rehash_right.ensures.left ∙ ap (λ v. v.left) c.deref_mut-then-is_right-2.ensures.value ∙ ap (λ v. v.left) c.deref_mut-then-is_right.ensures.value in
    let deep : c.rehash_right.new.self.depth ≡ b.value.depth = c.rehash_right.ensures.depth ∙ ap (λ v. v.depth) c.deref_mut-then-is_right-2.ensures.value ∙ ap (λ v. v.depth) c.deref_mut-then-is_right.ensures.value in
    let same : c.rehash_right.new.self.key ≡ b.value.key = c.rehash_right.ensures.key ∙ ap (λ v. v.key) c.deref_mut-then-is_right-2.ensures.value ∙ ap (λ v. v.key) c.deref_mut-then-is_right.ensures.value in
    let bit : is_right c.args.key.now b.value.depth ≡ true = ap (is_right c.args.key.now) (sym here) ∙ sym c.if-is_right.ensures in
    let put : Sets (value_at k b.value.right) (value_at k c.rehash_right.new.self.right) (way_from (256 - k) k c.args.key.now) c.args.value.items = rw child (rw (ap (λ v. v.right) c.deref_mut-then-is_right.ensures.value) at c.in_ok-old-in-Branch.ensures.sets) in
    sets_in_right sha256 c.args.self.now c.args.depth k c.args.key.now c.requires.hashed b c.in-Branch.is next c.in_default.ensures _ _ c.args.value.items refl same deep bit beside put

pub returns-in_ok-old-in-Branch-clause-old : goal.returns-in_ok-old-in-Branch-clause-old
returns-in_ok-old-in-Branch-clause-old t c =
    let b = c.in-Branch.branch in
    let k = c.deref.result.now.depth + 1 in
    let low = above sha256 c.args.self.now c.args.depth c.in-Branch.branch c.in-Branch.is c.requires.hashed in
    let high = inside sha256 c.args.self.now c.args.depth c.in-Branch.branch c.in-Branch.is c.requires.hashed in
    let here : c.deref.result.now.depth ≡ b.value.depth = ap (λ v. v.depth) c.deref.ensures in
    let next : k ≡ suc b.value.depth = omega (arith, here) in
    let bit : is_right c.args.key.now b.value.depth ≡ true = ap (is_right c.args.key.now) (sym here) ∙ sym c.if-is_right.ensures in
    c.in_ok-old-in-Branch.ensures.old ∙ ap (λ v. value_at k v.right (way_from (256 - k) k c.args.key.now)) c.deref_mut-then-is_right.ensures.value ∙ sym (value_right sha256 c.args.self.now c.args.depth k c.args.key.now c.requires.hashed b c.in-Branch.is next c.in_default.ensures bit)

pub returns-in_ok-old-in-Branch-clause-count : goal.returns-in_ok-old-in-Branch-clause-count
returns-in_ok-old-in-Branch-clause-count t c =
    let b = c.in-Branch.branch in
    let k = c.deref.result.now.depth + 1 in
    let low = above sha256 c.args.self.now c.args.depth c.in-Branch.branch c.in-Branch.is c.requires.hashed in
    let high = inside sha256 c.args.self.now c.args.depth c.in-Branch.branch c.in-Branch.is c.requires.hashed in
    let here : c.deref.result.now.depth ≡ b.value.depth = ap (λ v. v.depth) c.deref.ensures in
    let next : k ≡ suc b.value.depth = omega (arith, here) in
    let child : c.rehash_right.new.self.right ≡ c.insert.new.self = c.rehash_right.ensures.right ∙ ap (λ v. v.right) c.deref_mut-then-is_right-2.ensures.value in
    let beside : c.rehash_right.new.self.left ≡ b.value.left = c.rehash_right.ensures.left ∙ ap (λ v. v.left) c.deref_mut-then-is_right-2.ensures.value ∙ ap (λ v. v.left) c.deref_mut-then-is_right.ensures.value in
    let more = if is_some c.in_ok-old-in-Branch.old then 0 else 1 in
    let counted : leaf_count c.rehash_right.new.self.right ≡ leaf_count b.value.right + more = ap leaf_count child ∙ c.in_ok-old-in-Branch.ensures.count ∙ ap (λ v. leaf_count v.right + (if is_some c.in_ok-old-in-Branch.old then 0 else 1)) c.deref_mut-then-is_right.ensures.value in
    count_right_put c.args.self.now _ b _ more c.in-Branch.is refl beside counted

pub overflow_add-at-else-is_right : goal.overflow_add-at-else-is_right
overflow_add-at-else-is_right t c = omega (arith, inside sha256 c.args.self.now c.args.depth c.in-Branch.branch c.in-Branch.is c.requires.hashed, ap (λ v. v.depth) c.deref.ensures)

pub insert-requires-else-is_right : goal.insert-requires-else-is_right
insert-requires-else-is_right t c =
    let b = c.in-Branch.branch in
    let k = c.deref.result.now.depth + 1 in
    let low = above sha256 c.args.self.now c.args.depth c.in-Branch.branch c.in-Branch.is c.requires.hashed in
    let high = inside sha256 c.args.self.now c.args.depth c.in-Branch.branch c.in-Branch.is c.requires.hashed in
    let here : c.deref.result.now.depth ≡ b.value.depth = ap (λ v. v.depth) c.deref.ensures in
    let next : k ≡ suc b.value.depth = omega (arith, here) in
    (omega (arith, low, high, here, c.decreases), (omega (arith, high, here), (rw (ap (λ v. v.left) c.deref_mut-else-is_right.ensures.value) (hashed_left sha256 c.args.self.now c.args.depth b k c.in-Branch.is next c.requires.hashed), c.requires.empties)))

pub rehash_left-requires-clause-in_tree : goal.rehash_left-requires-clause-in_tree
rehash_left-requires-clause-in_tree t c = omega (arith, inside sha256 c.args.self.now c.args.depth c.in-Branch.branch c.in-Branch.is c.requires.hashed, ap (λ v. v.depth) c.deref_mut-else-is_right-2.ensures.value, ap (λ v. v.depth) c.deref_mut-else-is_right.ensures.value)

pub returns-in_ok-old-in-Branch-2-clause-hashed : goal.returns-in_ok-old-in-Branch-2-clause-hashed
returns-in_ok-old-in-Branch-2-clause-hashed t c =
    let b = c.in-Branch.branch in
    let k = c.deref.result.now.depth + 1 in
    let low = above sha256 c.args.self.now c.args.depth c.in-Branch.branch c.in-Branch.is c.requires.hashed in
    let high = inside sha256 c.args.self.now c.args.depth c.in-Branch.branch c.in-Branch.is c.requires.hashed in
    let here : c.deref.result.now.depth ≡ b.value.depth = ap (λ v. v.depth) c.deref.ensures in
    let next : k ≡ suc b.value.depth = omega (arith, here) in
    let child : c.rehash_left.new.self.left ≡ c.insert-else-is_right.new.self = c.rehash_left.ensures.left ∙ ap (λ v. v.left) c.deref_mut-else-is_right-2.ensures.value in
    let beside : c.rehash_left.new.self.right ≡ b.value.right = c.rehash_left.ensures.right ∙ ap (λ v. v.right) c.deref_mut-else-is_right-2.ensures.value ∙ ap (λ v. v.right) c.deref_mut-else-is_right.ensures.value in
    let deep : c.rehash_left.new.self.depth ≡ b.value.depth = c.rehash_left.ensures.depth ∙ ap (λ v. v.depth) c.deref_mut-else-is_right-2.ensures.value ∙ ap (λ v. v.depth) c.deref_mut-else-is_right.ensures.value in
    let again : c.deref_mut-else-is_right-2.result.now.depth + 1 ≡ k = omega (arith, here, ap (λ v. v.depth) c.deref_mut-else-is_right-2.ensures.value, ap (λ v. v.depth) c.deref_mut-else-is_right.ensures.value) in
    let left_is : c.rehash_left.new.self.left_root ≡ map_root sha256 (256 - k) (value_at k c.rehash_left.new.self.left) = c.rehash_left.ensures.left_root ∙ ap (λ n. map_root sha256 (256 - n) (value_at n c.deref_mut-else-is_right-2.result.now.left)) again ∙ ap (λ n. map_root sha256 (256 - k) (value_at k n)) (sym c.rehash_left.ensures.left) in
    let right_is : c.rehash_left.new.self.right_root ≡ map_root sha256 (256 - k) (value_at k c.rehash_left.new.self.right) = c.rehash_left.ensures.right_root ∙ ap (λ v. v.right_root) c.deref_mut-else-is_right-2.ensures.value ∙ ap (λ v. v.right_root) c.deref_mut-else-is_right.ensures.value ∙ right_at sha256 c.args.self.now c.args.depth b k c.in-Branch.is next c.requires.hashed ∙ ap (λ n. map_root sha256 (256 - k) (value_at k n)) (sym beside) in
    let left_hashed : IsHashed sha256 k c.rehash_left.new.self.left = rw child c.in_ok-old-in-Branch-2.ensures.hashed in
    let right_hashed : IsHashed sha256 k c.rehash_left.new.self.right = rw beside (hashed_right sha256 c.args.self.now c.args.depth b k c.in-Branch.is next c.requires.hashed) in
    hashed_branch sha256 _ c.args.depth _ k refl (omega (arith, low, deep)) (omega (arith, high, deep)) (omega (arith, here, deep)) left_is right_is left_hashed right_hashed

pub returns-in_ok-old-in-Branch-2-clause-sets : goal.returns-in_ok-old-in-Branch-2-clause-sets
returns-in_ok-old-in-Branch-2-clause-sets t c =
    let b = c.in-Branch.branch in
    let k = c.deref.result.now.depth + 1 in
    let low = above sha256 c.args.self.now c.args.depth c.in-Branch.branch c.in-Branch.is c.requires.hashed in
    let high = inside sha256 c.args.self.now c.args.depth c.in-Branch.branch c.in-Branch.is c.requires.hashed in
    let here : c.deref.result.now.depth ≡ b.value.depth = ap (λ v. v.depth) c.deref.ensures in
    let next : k ≡ suc b.value.depth = omega (arith, here) in
    let child : c.rehash_left.new.self.left ≡ c.insert-else-is_right.new.self = c.rehash_left.ensures.left ∙ ap (λ v. v.left) c.deref_mut-else-is_right-2.ensures.value in
    let beside : c.rehash_left.new.self.right ≡ b.value.right = c.rehash_left.ensures.right ∙ ap (λ v. v.right) c.deref_mut-else-is_right-2.ensures.value ∙ ap (λ v. v.right) c.deref_mut-else-is_right.ensures.value in
    let deep : c.rehash_left.new.self.depth ≡ b.value.depth = c.rehash_left.ensures.depth ∙ ap (λ v. v.depth) c.deref_mut-else-is_right-2.ensures.value ∙ ap (λ v. v.depth) c.deref_mut-else-is_right.ensures.value in
    let same : c.rehash_left.new.self.key ≡ b.value.key = c.rehash_left.ensures.key ∙ ap (λ v. v.key) c.deref_mut-else-is_right-2.ensures.value ∙ ap (λ v. v.key) c.deref_mut-else-is_right.ensures.value in
    let bit : is_right c.args.key.now b.value.depth ≡ false = ap (is_right c.args.key.now) (sym here) ∙ sym c.if-is_right.ensures in
    let put : Sets (value_at k b.value.left) (value_at k c.rehash_left.new.self.left) (way_from (256 - k) k c.args.key.now) c.args.value.items = rw child (rw (ap (λ v. v.left) c.deref_mut-else-is_right.ensures.value) at c.in_ok-old-in-Branch-2.ensures.sets) in
    sets_in_left sha256 c.args.self.now c.args.depth k c.args.key.now c.requires.hashed b c.in-Branch.is next c.in_default.ensures _ _ c.args.value.items refl same deep bit beside put

pub returns-in_ok-old-in-Branch-2-clause-old : goal.returns-in_ok-old-in-Branch-2-clause-old
returns-in_ok-old-in-Branch-2-clause-old t c =
    let b = c.in-Branch.branch in
    let k = c.deref.result.now.depth + 1 in
    let low = above sha256 c.args.self.now c.args.depth c.in-Branch.branch c.in-Branch.is c.requires.hashed in
    let high = inside sha256 c.args.self.now c.args.depth c.in-Branch.branch c.in-Branch.is c.requires.hashed in
    let here : c.deref.result.now.depth ≡ b.value.depth = ap (λ v. v.depth) c.deref.ensures in
    let next : k ≡ suc b.value.depth = omega (arith, here) in
    let bit : is_right c.args.key.now b.value.depth ≡ false = ap (is_right c.args.key.now) (sym here) ∙ sym c.if-is_right.ensures in
    c.in_ok-old-in-Branch-2.ensures.old ∙ ap (λ v. value_at k v.left (way_from (256 - k) k c.args.key.now)) c.deref_mut-else-is_right.ensures.value ∙ sym (value_left sha256 c.args.self.now c.args.depth k c.args.key.now c.requires.hashed b c.in-Branch.is next c.in_default.ensures bit)

pub returns-in_ok-old-in-Branch-2-clause-count : goal.returns-in_ok-old-in-Branch-2-clause-count
returns-in_ok-old-in-Branch-2-clause-count t c =
    let b = c.in-Branch.branch in
    let k = c.deref.result.now.depth + 1 in
    let low = above sha256 c.args.self.now c.args.depth c.in-Branch.branch c.in-Branch.is c.requires.hashed in
    let high = inside sha256 c.args.self.now c.args.depth c.in-Branch.branch c.in-Branch.is c.requires.hashed in
    let here : c.deref.result.now.depth ≡ b.value.depth = ap (λ v. v.depth) c.deref.ensures in
    let next : k ≡ suc b.value.depth = omega (arith, here) in
    let child : c.rehash_left.new.self.left ≡ c.insert-else-is_right.new.self = c.rehash_left.ensures.left ∙ ap (λ v. v.left) c.deref_mut-else-is_right-2.ensures.value in
    let beside : c.rehash_left.new.self.right ≡ b.value.right = c.rehash_left.ensures.right ∙ ap (λ v. v.right) c.deref_mut-else-is_right-2.ensures.value ∙ ap (λ v. v.right) c.deref_mut-else-is_right.ensures.value in
    let more = if is_some c.in_ok-old-in-Branch-2.old then 0 else 1 in
    let counted : leaf_count c.rehash_left.new.self.left ≡ leaf_count b.value.left + more = ap leaf_count child ∙ c.in_ok-old-in-Branch-2.ensures.count ∙ ap (λ v. leaf_count v.left + (if is_some c.in_ok-old-in-Branch-2.old then 0 else 1)) c.deref_mut-else-is_right.ensures.value in
    count_left_put c.args.self.now _ b _ more c.in-Branch.is refl beside counted
