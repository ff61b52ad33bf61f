-- A node taken apart, and one put together.
use Rattle.std.proofs.Common.{◌≡◌, ◌⊎◌, ℕ, suc, ◌+◌, ◌-◌, ◌<◌, ◌≤◌, Bool, true, false, if◌then◌else◌, List, [], ◌∷◌, ◌++◌, drop, Option, Some, None, inl, inr, refl, sym, ◌∙◌, ap, arith, append_assoc}
use Rattle.warg_merkle.specs.Trees.{Side, Left, Right, leaf_input, node_input}
use Rattle.warg_merkle.specs.SparseMap.Maps.{is_right, map_root, map_path}
use Rattle.warg_merkle.specs.declared.sparse_tree.node.Node.{Node}
use Rattle.warg_merkle.specs.declared.sparse_tree.node.Node.TheVariants.{Empty, Leaf, Branch, Branch'}
use Rattle.warg_merkle.specs.SparseTree.Nodes.{side_at, way_from, empty_roots, below, map_count, Sets}
use Rattle.warg_merkle.specs.SparseTree.Compressed.{behind, alone, forked, values_in, root_above}
use Rattle.warg_merkle.specs.SparseTree.Stored.{tree_at, value_at, leaf_count, AreAlike, PartAt, LeavesAt, Follows, IsKept, IsHashed}
use Rattle.warg_merkle.proofs.SparseTreeLemmas.Ways.{length-way_from, way_split, way_side, same_way, own_way, other_way, other_left, other_right}
use Rattle.warg_merkle.proofs.SparseTreeLemmas.Behind.{behind_append, behind_one, at_end, at_whole, none_right, none_left, sets_behind, first_value, next_value, sets_left, sets_right, part_left, part_right, none_count, count_behind, count_alone, root_behind, root_append, root_forked, path_none, path_alone, path_behind, path_right, path_left, path_forked_left, path_forked_right}

-- the map of a node at a depth
module _ (node : Node) (d : ℕ) where
  pub values_none : node ≡ Empty → value_at d node ≡ (λ way. None)
  unfolding tree_at values_in
  values_none is = rw is refl

  pub values_leaf : (leaf : _) → node ≡ Leaf leaf → value_at d node ≡ behind (way_from (256 - d) d leaf.value.key) (alone leaf.value.value.items)
  unfolding tree_at values_in
  values_leaf leaf is = rw is refl

  pub values_branch : (b : _) → node ≡ Branch b → value_at d node ≡ behind (way_from (b.value.depth - d) d b.value.key) (forked (value_at (suc b.value.depth) b.value.left) (value_at (suc b.value.depth) b.value.right))
  unfolding tree_at values_in
  values_branch b is = rw is refl

  pub follows_leaf : (key : List ℕ) (leaf : _) → node ≡ Leaf leaf → Follows d key node → AreAlike d 256 key leaf.value.key
  unfolding Follows
  follows_leaf key leaf is follows = rw is at follows

  pub follows_branch : (key : List ℕ) (b : _) → node ≡ Branch b → Follows d key node → AreAlike d b.value.depth key b.value.key
  unfolding Follows
  follows_branch key b is follows = rw is at follows

  pub no_edge : (key : List ℕ) → node ≡ Empty → Follows d key node
  unfolding Follows
  no_edge key is = rw is tt

  pub along_leaf : (key : List ℕ) (leaf : _) → node ≡ Leaf leaf → AreAlike d 256 key leaf.value.key → Follows d key node
  unfolding Follows
  along_leaf key leaf is alike = rw is alike

  pub along_branch : (key : List ℕ) (b : _) → node ≡ Branch b → AreAlike d b.value.depth key b.value.key → Follows d key node
  unfolding Follows
  along_branch key b is alike = rw is alike

  pub parts_leaf : (key : List ℕ) (at : ℕ) (leaf : _) → node ≡ Leaf leaf → PartAt d 256 key leaf.value.key at → LeavesAt d key node at
  unfolding LeavesAt
  parts_leaf key at leaf is part = rw is part

  pub parts_branch : (key : List ℕ) (at : ℕ) (b : _) → node ≡ Branch b → PartAt d b.value.depth key b.value.key at → LeavesAt d key node at
  unfolding LeavesAt
  parts_branch key at b is part = rw is part

-- what is known of the roots that it keeps
module _ (hash : List ℕ → List ℕ) (node : Node) (d : ℕ) where
  pub kept : (leaf : _) → node ≡ Leaf leaf → IsHashed hash d node → IsKept hash leaf.value.key leaf.value.value.items leaf.value.kept
  unfolding IsHashed
  kept leaf is h = rw is at h

  pub above : (b : _) → node ≡ Branch b → IsHashed hash d node → d ≤ b.value.depth
  unfolding IsHashed
  above b is h = (rw is at h).0.0

  pub inside : (b : _) → node ≡ Branch b → IsHashed hash d node → b.value.depth < 256
  unfolding IsHashed
  inside b is h = (rw is at h).0.1

  pub left_root : (b : _) → node ≡ Branch b → IsHashed hash d node → b.value.left_root ≡ map_root hash (255 - b.value.depth) (value_at (suc b.value.depth) b.value.left)
  unfolding IsHashed
  left_root b is h = (rw is at h).1.0.0

  pub right_root : (b : _) → node ≡ Branch b → IsHashed hash d node → b.value.right_root ≡ map_root hash (255 - b.value.depth) (value_at (suc b.value.depth) b.value.right)
  unfolding IsHashed
  right_root b is h = (rw is at h).1.0.1

  pub left_at : (b : _) (k : ℕ) → node ≡ Branch b → k ≡ suc b.value.depth → IsHashed hash d node → b.value.left_root ≡ map_root hash (256 - k) (value_at k b.value.left)
  left_at b k is next h =
      let height : 255 - b.value.depth ≡ 256 - k = omega arith in
      left_root b is h ∙ ap (λ n. map_root hash n (value_at (suc b.value.depth) b.value.left)) height ∙ ap (λ n. map_root hash (256 - k) (value_at n b.value.left)) (sym next)

  pub right_at : (b : _) (k : ℕ) → node ≡ Branch b → k ≡ suc b.value.depth → IsHashed hash d node → b.value.right_root ≡ map_root hash (256 - k) (value_at k b.value.right)
  right_at b k is next h =
      let height : 255 - b.value.depth ≡ 256 - k = omega arith in
      right_root b is h ∙ ap (λ n. map_root hash n (value_at (suc b.value.depth) b.value.right)) height ∙ ap (λ n. map_root hash (256 - k) (value_at n b.value.right)) (sym next)

  pub hashed_left : (b : _) (k : ℕ) → node ≡ Branch b → k ≡ suc b.value.depth → IsHashed hash d node → IsHashed hash k b.value.left
  unfolding IsHashed
  hashed_left b k is next h = rw next ((rw is at h).1.1.0)

  pub hashed_right : (b : _) (k : ℕ) → node ≡ Branch b → k ≡ suc b.value.depth → IsHashed hash d node → IsHashed hash k b.value.right
  unfolding IsHashed
  hashed_right b k is next h = rw next ((rw is at h).1.1.1)

  pub hashed_none : node ≡ Empty → IsHashed hash d node
  unfolding IsHashed
  hashed_none is = rw is tt

  pub hashed_leaf : (leaf : _) → node ≡ Leaf leaf → IsKept hash leaf.value.key leaf.value.value.items leaf.value.kept → IsHashed hash d node
  unfolding IsHashed
  hashed_leaf leaf is is_kept = rw is is_kept

  pub hashed_branch : (b : _) (k : ℕ) → node ≡ Branch b → d ≤ b.value.depth → b.value.depth < 256 → k ≡ suc b.value.depth → b.value.left_root ≡ map_root hash (256 - k) (value_at k b.value.left) → b.value.right_root ≡ map_root hash (256 - k) (value_at k b.value.right) → IsHashed hash k b.value.left → IsHashed hash k b.value.right → IsHashed hash d node
  unfolding IsHashed
  hashed_branch b k is low high next l r hl hr =
      let height : 256 - suc b.value.depth ≡ 255 - b.value.depth = omega arith in
      rw is ((low, high), ((rw (next, height) at l, rw (next, height) at r), (rw next at hl, rw next at hr)))

-- a leaf below a place where ways part
pub leaf_below : (node : Node) (leaf : _) (at : ℕ) (key v : List ℕ) → node ≡ Leaf leaf → leaf.value.key ≡ key → leaf.value.value.items ≡ v → value_at (suc at) node ≡ behind (way_from (255 - at) (suc at) key) (alone v)
leaf_below node leaf at key v is same items =
    let height : 256 - suc at ≡ 255 - at = omega arith in
    values_leaf node (suc at) leaf is
    ∙ ap (λ n. behind (way_from n (suc at) leaf.value.key) (alone leaf.value.value.items)) height
    ∙ ap (λ k. behind (way_from (255 - at) (suc at) k) (alone leaf.value.value.items)) same
    ∙ ap (λ x. behind (way_from (255 - at) (suc at) key) (alone x)) items

-- its root
module _ (hash : List ℕ → List ℕ) (node : Node) (d : ℕ) (low : d ≤ 256) where
  leaf_root : (v : List ℕ) → map_root hash 0 (alone v) ≡ hash (leaf_input v)
  unfolding map_root
  leaf_root v = refl

  pub root_leaf : (leaf : _) → node ≡ Leaf leaf → root_above hash 0 (way_from (256 - d) d leaf.value.key) (hash (leaf_input leaf.value.value.items)) ≡ map_root hash (256 - d) (value_at d node)
  root_leaf leaf is =
      let way = way_from (256 - d) d leaf.value.key in
      let v = leaf.value.value.items in
      ap (root_above hash 0 way) (sym (leaf_root v))
      ∙ sym (root_behind hash way (256 - d) 0 (alone v) (omega (arith, length-way_from (256 - d) d leaf.value.key)))
      ∙ ap (map_root hash (256 - d)) (sym (values_leaf node d leaf is))

  pub root_branch : (b : _) → node ≡ Branch b → IsHashed hash d node → root_above hash (256 - b.value.depth) (way_from (b.value.depth - d) d b.value.key) (hash (node_input b.value.left_root b.value.right_root)) ≡ map_root hash (256 - d) (value_at d node)
  root_branch b is h =
      let at = b.value.depth in
      let edge = way_from (at - d) d b.value.key in
      let l = value_at (suc at) b.value.left in
      let r = value_at (suc at) b.value.right in
      let from : d ≤ at = above hash node d b is h in
      let below : at < 256 = inside hash node d b is h in
      ap (λ x. root_above hash (256 - at) edge (hash (node_input x b.value.right_root))) (left_root hash node d b is h)
      ∙ ap (λ x. root_above hash (256 - at) edge (hash (node_input (map_root hash (255 - at) l) x))) (right_root hash node d b is h)
      ∙ ap (root_above hash (256 - at) edge) (sym (root_forked hash l r (256 - at) (255 - at) (omega arith)))
      ∙ sym (root_behind hash edge (256 - d) (256 - at) (forked l r) (omega (arith, length-way_from (at - d) d b.value.key)))
      ∙ ap (map_root hash (256 - d)) (sym (values_branch node d b is))

-- the root of a leaf from the one that it keeps
pub root_kept : (hash : List ℕ → List ℕ) (d : ℕ) (key root kept : List ℕ) → d ≤ 48 → kept ≡ root_above hash 0 (way_from 208 48 key) root → root_above hash 208 (way_from (48 - d) d key) kept ≡ root_above hash 0 (way_from (256 - d) d key) root
root_kept hash d key root kept low is =
    ap (root_above hash 208 (way_from (48 - d) d key)) is
    ∙ sym (root_append hash (way_from (48 - d) d key) (way_from 208 48 key) 0 208 root (omega (arith, length-way_from 208 48 key)))
    ∙ ap (λ way. root_above hash 0 way root) (sym (way_split (48 - d) (256 - d) 208 d 48 key (omega arith) (omega arith)))

-- as many values as leaves
pub count : (hash : List ℕ → List ℕ) (node : Node) (d : ℕ) → d ≤ 256 → IsHashed hash d node → map_count (256 - d) (value_at d node) ≡ leaf_count node
unfolding map_count tree_at values_in leaf_count IsHashed
count hash Empty d low h = none_count (256 - d)
count hash (Leaf leaf) d low h = count_alone (way_from (256 - d) d leaf.value.key) (256 - d) leaf.value.value.items (sym (length-way_from (256 - d) d leaf.value.key))
count hash (Branch' p key at lr rr left right) d low h =
    let from : d ≤ at = h.0.0 in
    let below : at < 256 = h.0.1 in
    let high : 256 - at ≡ suc (256 - suc at) = omega arith in
    let both = forked (value_at (suc at) left) (value_at (suc at) right) in
    count_behind (way_from (at - d) d key) (256 - d) (256 - at) both (omega (arith, length-way_from (at - d) d key))
    ∙ ap (λ n. map_count n both) high
    ∙ omega (arith, count hash left (suc at) (omega arith) h.1.1.0, count hash right (suc at) (omega arith) h.1.1.1)

-- a key's way that leaves the edge
below_at : (d end at : ℕ) (key other : List ℕ) (m : List Side → Option (List ℕ)) (n : ℕ) → PartAt d end key other at → n ≡ end - suc at → behind (way_from (end - d) d other) m ≡ behind (way_from (at - d) d key) (below (side_at other at) (behind (way_from n (suc at) other) m))
below_at d end at key other m n part is =
    ap (λ e. behind e m) (other_way d end at key other part (end - d) n refl is)
    ∙ behind_append (way_from (at - d) d key) (side_at other at ∷ way_from n (suc at) other) m
    ∙ ap (behind (way_from (at - d) d key)) (behind_one (side_at other at) (way_from n (suc at) other) m)

wider : (d end at : ℕ) (key other : List ℕ) → end ≤ 256 → PartAt d end key other at → PartAt d 256 key other at
wider d end at key other low part = record { from = part.from; inside = let inside = part.inside in omega arith; alike = part.alike; differ = part.differ }

-- what the map is above and below the place
abbrev pub PartsAs : ℕ → List ℕ → Node → ℕ → List ℕ → Type 0
PartsAs d key node at other = PartAt d 256 key other at × (value_at d node ≡ behind (way_from (at - d) d key) (below (side_at other at) (value_at (suc at) node)))

pub parts_as : (hash : List ℕ → List ℕ) (node : Node) (d at : ℕ) (key : List ℕ) → IsHashed hash d node → LeavesAt d key node at → (other : List ℕ) × PartsAs d key node at other
unfolding IsHashed LeavesAt tree_at values_in
parts_as hash Empty d at key h leaves = absurd leaves
parts_as hash (Leaf leaf) d at key h leaves = (leaf.value.key, (leaves, below_at d 256 at key leaf.value.key (alone leaf.value.value.items) (256 - suc at) leaves refl))
parts_as hash (Branch' p other end lr rr left right) d at key h leaves =
    let high : end < 256 = h.0.1 in
    (other, (wider d end at key other (omega arith) leaves, below_at d end at key other (forked (value_at (suc end) left) (value_at (suc end) right)) (end - suc at) leaves refl))

pub hashed_there : (hash : List ℕ → List ℕ) (node : Node) (d at k : ℕ) (key : List ℕ) → IsHashed hash d node → LeavesAt d key node at → k ≡ suc at → IsHashed hash k node
unfolding IsHashed LeavesAt
hashed_there hash Empty d at k key h leaves next = absurd leaves
hashed_there hash (Leaf leaf) d at k key h leaves next = h
hashed_there hash (Branch' p other end lr rr left right) d at k key h leaves next =
    let below : at < end = leaves.inside in
    ((omega arith, h.0.1), h.1)

bit_cases : (b : Bool) → (b ≡ true) ⊎ (b ≡ false)
bit_cases true = inl refl
bit_cases false = inr refl

module _ (hash : List ℕ → List ℕ) (node : Node) (d at : ℕ) (key : List ℕ) (h : IsHashed hash d node) (leaves : LeavesAt d key node at) where
  pub leaves_from : d ≤ at
  leaves_from = (parts_as hash node d at key h leaves).1.0.from

  pub leaves_inside : at < 256
  leaves_inside = (parts_as hash node d at key h leaves).1.0.inside

  split_right : is_right key at ≡ true → (value_at d node ≡ behind (way_from (at - d) d key) (below Left (value_at (suc at) node))) × (way_from (256 - d) d key ≡ way_from (at - d) d key ++ Right ∷ way_from (255 - at) (suc at) key)
  split_right right =
      let (other, (part, is)) = parts_as hash node d at key h leaves in (
        is ∙ ap (λ s. behind (way_from (at - d) d key) (below s (value_at (suc at) node))) (other_left d 256 at key other part right),
        own_way d 256 at key other part (256 - d) (255 - at) refl refl (omega arith) ∙ ap (λ (b : Bool). way_from (at - d) d key ++ (if b then Right else Left) ∷ way_from (255 - at) (suc at) key) right,
      )

  split_left : is_right key at ≡ false → (value_at d node ≡ behind (way_from (at - d) d key) (below Right (value_at (suc at) node))) × (way_from (256 - d) d key ≡ way_from (at - d) d key ++ Left ∷ way_from (255 - at) (suc at) key)
  split_left left =
      let (other, (part, is)) = parts_as hash node d at key h leaves in (
        is ∙ ap (λ s. behind (way_from (at - d) d key) (below s (value_at (suc at) node))) (other_right d 256 at key other part left),
        own_way d 256 at key other part (256 - d) (255 - at) refl refl (omega arith) ∙ ap (λ (b : Bool). way_from (at - d) d key ++ (if b then Right else Left) ∷ way_from (255 - at) (suc at) key) left,
      )

  -- there is no value
  pub none_there : value_at d node (way_from (256 - d) d key) ≡ None
  none_there = elim (bit_cases (is_right key at)) [
    | inl right ↦ let (map, way) = split_right right in ap (value_at d node) way ∙ ap (λ m. m (way_from (at - d) d key ++ Right ∷ way_from (255 - at) (suc at) key)) map ∙ none_right (way_from (at - d) d key) (way_from (255 - at) (suc at) key) (value_at (suc at) node)
    | inr left ↦ let (map, way) = split_left left in ap (value_at d node) way ∙ ap (λ m. m (way_from (at - d) d key ++ Left ∷ way_from (255 - at) (suc at) key)) map ∙ none_left (way_from (at - d) d key) (way_from (255 - at) (suc at) key) (value_at (suc at) node)
  ]

  -- the path has its root there, and roots of empty subtrees
  path_end : (s : Side) (m : List Side → Option (List ℕ)) → map_path hash m (s ∷ way_from (255 - at) (suc at) key) ≡ empty_roots hash (255 - at) ++ map_root hash (255 - at) (value_at (suc at) node) ∷ [] → map_path hash (behind (way_from (at - d) d key) m) (way_from (at - d) d key ++ s ∷ way_from (255 - at) (suc at) key) ≡ empty_roots hash (255 - at) ++ map_root hash (255 - at) (value_at (suc at) node) ∷ drop (256 - at) (empty_roots hash (256 - d))
  path_end s m path =
      let from = leaves_from in
      let below = leaves_inside in
      path_behind hash (way_from (at - d) d key) (s ∷ way_from (255 - at) (suc at) key) m (256 - at) (256 - d) (omega (arith, length-way_from (255 - at) (suc at) key)) (omega (arith, length-way_from (at - d) d key))
      ∙ ap (λ ps. ps ++ drop (256 - at) (empty_roots hash (256 - d))) path
      ∙ append_assoc (empty_roots hash (255 - at)) (map_root hash (255 - at) (value_at (suc at) node) ∷ []) (drop (256 - at) (empty_roots hash (256 - d)))

  pub path_there : map_path hash (value_at d node) (way_from (256 - d) d key) ≡ empty_roots hash (255 - at) ++ map_root hash (255 - at) (value_at (suc at) node) ∷ drop (256 - at) (empty_roots hash (256 - d))
  path_there = elim (bit_cases (is_right key at)) [
    | inl right ↦ let (map, way) = split_right right in ap (map_path hash (value_at d node)) way ∙ ap (λ m. map_path hash m (way_from (at - d) d key ++ Right ∷ way_from (255 - at) (suc at) key)) map ∙ path_end Right (below Left (value_at (suc at) node)) (path_right hash (way_from (255 - at) (suc at) key) (value_at (suc at) node) (255 - at) (length-way_from (255 - at) (suc at) key))
    | inr left ↦ let (map, way) = split_left left in ap (map_path hash (value_at d node)) way ∙ ap (λ m. map_path hash m (way_from (at - d) d key ++ Left ∷ way_from (255 - at) (suc at) key)) map ∙ path_end Left (below Right (value_at (suc at) node)) (path_left hash (way_from (255 - at) (suc at) key) (value_at (suc at) node) (255 - at) (length-way_from (255 - at) (suc at) key))
  ]

  pub path_at : (k : ℕ) (r : List ℕ) → k ≡ suc at → r ≡ map_root hash (256 - k) (value_at k node) → map_path hash (value_at d node) (way_from (256 - d) d key) ≡ empty_roots hash (255 - at) ++ r ∷ drop (256 - at) (empty_roots hash (256 - d))
  path_at k r next is =
      let height : 256 - k ≡ 255 - at = omega arith in
      path_there ∙ ap (λ x. empty_roots hash (255 - at) ++ x ∷ drop (256 - at) (empty_roots hash (256 - d))) (sym (is ∙ ap (λ n. map_root hash n (value_at k node)) height ∙ ap (λ n. map_root hash (255 - at) (value_at n node)) next))

  -- a value put there
  module _ (new : Node) (b : _) (v : List ℕ) (is : new ≡ Branch b) (same : b.value.key ≡ key) (here : b.value.depth ≡ at) where
    new_map : value_at d new ≡ behind (way_from (at - d) d key) (forked (value_at (suc at) b.value.left) (value_at (suc at) b.value.right))
    new_map = values_branch new d b is ∙ ap (λ k. behind (way_from (b.value.depth - d) d k) (forked (value_at (suc b.value.depth) b.value.left) (value_at (suc b.value.depth) b.value.right))) same ∙ ap (λ n. behind (way_from (n - d) d key) (forked (value_at (suc n) b.value.left) (value_at (suc n) b.value.right))) here

    pub sets_there_right : is_right key at ≡ true → b.value.left ≡ node → value_at (suc at) b.value.right ≡ behind (way_from (255 - at) (suc at) key) (alone v) → Sets (value_at d node) (value_at d new) (way_from (256 - d) d key) v
    sets_there_right right old own =
        let (map, way) = split_right right in
        let e = way_from (at - d) d key in
        let w = way_from (255 - at) (suc at) key in
        let m = value_at (suc at) node in
        rw (map, way, new_map, old, own) (sets_behind e (below Left m) (forked m (behind w (alone v))) (Right ∷ w) v (part_right m (behind w (alone v)) w v (first_value w v)))

    pub sets_there_left : is_right key at ≡ false → b.value.right ≡ node → value_at (suc at) b.value.left ≡ behind (way_from (255 - at) (suc at) key) (alone v) → Sets (value_at d node) (value_at d new) (way_from (256 - d) d key) v
    sets_there_left left old own =
        let (map, way) = split_left left in
        let e = way_from (at - d) d key in
        let w = way_from (255 - at) (suc at) key in
        let m = value_at (suc at) node in
        rw (map, way, new_map, old, own) (sets_behind e (below Right m) (forked (behind w (alone v)) m) (Left ∷ w) v (part_left m (behind w (alone v)) w v (first_value w v)))

-- a key's way along the whole edge of a leaf
module _ (node : Node) (d : ℕ) (key : List ℕ) (low : d ≤ 256) (leaf : _) (is : node ≡ Leaf leaf) (follows : Follows d key node) where
  leaf_way : way_from (256 - d) d key ≡ way_from (256 - d) d leaf.value.key
  leaf_way = let alike = follows_leaf node d key leaf is follows in same_way (256 - d) d key leaf.value.key (λ i from high. alike i from (omega arith))

  pub value_leaf : value_at d node (way_from (256 - d) d key) ≡ Some leaf.value.value.items
  value_leaf = ap (value_at d node) leaf_way ∙ ap (λ m. m (way_from (256 - d) d leaf.value.key)) (values_leaf node d leaf is) ∙ at_whole (way_from (256 - d) d leaf.value.key) leaf.value.value.items

  pub path_leaf : (hash : List ℕ → List ℕ) → map_path hash (value_at d node) (way_from (256 - d) d key) ≡ empty_roots hash (256 - d)
  path_leaf hash =
      ap (map_path hash (value_at d node)) leaf_way
      ∙ ap (λ m. map_path hash m (way_from (256 - d) d leaf.value.key)) (values_leaf node d leaf is)
      ∙ path_alone hash (way_from (256 - d) d leaf.value.key) leaf.value.value.items
      ∙ ap (empty_roots hash) (length-way_from (256 - d) d leaf.value.key)

  pub sets_leaf : (new : Node) (put : _) (v : List ℕ) → new ≡ Leaf put → put.value.key ≡ leaf.value.key → put.value.value.items ≡ v → Sets (value_at d node) (value_at d new) (way_from (256 - d) d key) v
  sets_leaf new put v is_new same items =
      let map : value_at d new ≡ behind (way_from (256 - d) d leaf.value.key) (alone v) = values_leaf new d put is_new ∙ ap (λ k. behind (way_from (256 - d) d k) (alone put.value.value.items)) same ∙ ap (λ x. behind (way_from (256 - d) d leaf.value.key) (alone x)) items in
      rw (values_leaf node d leaf is, map, leaf_way) (next_value (way_from (256 - d) d leaf.value.key) leaf.value.value.items v)

-- nothing there
module _ (node : Node) (d : ℕ) (key : List ℕ) (is : node ≡ Empty) where
  pub value_none : value_at d node (way_from (256 - d) d key) ≡ None
  value_none = ap (λ m. m (way_from (256 - d) d key)) (values_none node d is)

  pub path_nothing : (hash : List ℕ → List ℕ) → map_path hash (value_at d node) (way_from (256 - d) d key) ≡ empty_roots hash (256 - d)
  path_nothing hash = ap (λ m. map_path hash m (way_from (256 - d) d key)) (values_none node d is) ∙ path_none hash (way_from (256 - d) d key) ∙ ap (empty_roots hash) (length-way_from (256 - d) d key)

  pub sets_nothing : (new : Node) (put : _) (v : List ℕ) → new ≡ Leaf put → put.value.key ≡ key → put.value.value.items ≡ v → Sets (value_at d node) (value_at d new) (way_from (256 - d) d key) v
  sets_nothing new put v is_new same items =
      let map : value_at d new ≡ behind (way_from (256 - d) d key) (alone v) = values_leaf new d put is_new ∙ ap (λ k. behind (way_from (256 - d) d k) (alone put.value.value.items)) same ∙ ap (λ x. behind (way_from (256 - d) d key) (alone x)) items in
      rw (values_none node d is, map) (first_value (way_from (256 - d) d key) v)

-- a key's way along the edge of a branch
module _ (hash : List ℕ → List ℕ) (node : Node) (d k : ℕ) (key : List ℕ) (h : IsHashed hash d node) (b : _) (is : node ≡ Branch b) (next : k ≡ suc b.value.depth) where
  split_map : value_at d node ≡ behind (way_from (b.value.depth - d) d b.value.key) (forked (value_at k b.value.left) (value_at k b.value.right))
  split_map = values_branch node d b is ∙ ap (λ n. behind (way_from (b.value.depth - d) d b.value.key) (forked (value_at n b.value.left) (value_at n b.value.right))) (sym next)

  module _ (follows : Follows d key node) where
    branch_way : way_from (256 - d) d key ≡ way_from (b.value.depth - d) d b.value.key ++ side_at key b.value.depth ∷ way_from (256 - k) k key
    branch_way =
        let at = b.value.depth in
        let from : d ≤ at = above hash node d b is h in
        let below : at < 256 = inside hash node d b is h in
        let alike = follows_branch node d key b is follows in
        way_split (at - d) (256 - d) (suc (256 - k)) d at key (omega arith) (omega arith)
        ∙ ap (λ way. way_from (at - d) d key ++ way) (way_side (suc (256 - k)) at (256 - k) k key refl next)
        ∙ ap (λ way. way ++ side_at key at ∷ way_from (256 - k) k key) (same_way (at - d) d key b.value.key (λ i low high. alike i low (omega arith)))

    way_right : is_right key b.value.depth ≡ true → way_from (256 - d) d key ≡ way_from (b.value.depth - d) d b.value.key ++ Right ∷ way_from (256 - k) k key
    way_right right = branch_way ∙ ap (λ (s : Bool). way_from (b.value.depth - d) d b.value.key ++ (if s then Right else Left) ∷ way_from (256 - k) k key) right

    way_left : is_right key b.value.depth ≡ false → way_from (256 - d) d key ≡ way_from (b.value.depth - d) d b.value.key ++ Left ∷ way_from (256 - k) k key
    way_left left = branch_way ∙ ap (λ (s : Bool). way_from (b.value.depth - d) d b.value.key ++ (if s then Right else Left) ∷ way_from (256 - k) k key) left

    pub value_right : is_right key b.value.depth ≡ true → value_at d node (way_from (256 - d) d key) ≡ value_at k b.value.right (way_from (256 - k) k key)
    value_right right = rw (split_map, way_right right) (at_end (way_from (b.value.depth - d) d b.value.key) (Right ∷ way_from (256 - k) k key) (forked (value_at k b.value.left) (value_at k b.value.right)))

    pub value_left : is_right key b.value.depth ≡ false → value_at d node (way_from (256 - d) d key) ≡ value_at k b.value.left (way_from (256 - k) k key)
    value_left left = rw (split_map, way_left left) (at_end (way_from (b.value.depth - d) d b.value.key) (Left ∷ way_from (256 - k) k key) (forked (value_at k b.value.left) (value_at k b.value.right)))

    side_path : (s : Side) (ps : List (List ℕ)) (r : List ℕ) → map_path hash (forked (value_at k b.value.left) (value_at k b.value.right)) (s ∷ way_from (256 - k) k key) ≡ ps ++ r ∷ [] → map_path hash (behind (way_from (b.value.depth - d) d b.value.key) (forked (value_at k b.value.left) (value_at k b.value.right))) (way_from (b.value.depth - d) d b.value.key ++ s ∷ way_from (256 - k) k key) ≡ (ps ++ r ∷ []) ++ drop (256 - b.value.depth) (empty_roots hash (256 - d))
    side_path s ps r path =
        let at = b.value.depth in
        let from : d ≤ at = above hash node d b is h in
        let below : at < 256 = inside hash node d b is h in
        path_behind hash (way_from (at - d) d b.value.key) (s ∷ way_from (256 - k) k key) (forked (value_at k b.value.left) (value_at k b.value.right)) (256 - at) (256 - d) (omega (arith, length-way_from (256 - k) k key)) (omega (arith, length-way_from (at - d) d b.value.key))
        ∙ ap (λ x. x ++ drop (256 - at) (empty_roots hash (256 - d))) path

    pub path_in_right : is_right key b.value.depth ≡ true → map_path hash (value_at d node) (way_from (256 - d) d key) ≡ (map_path hash (value_at k b.value.right) (way_from (256 - k) k key) ++ b.value.left_root ∷ []) ++ drop (256 - b.value.depth) (empty_roots hash (256 - d))
    path_in_right right =
        let beside : map_root hash (256 - k) (value_at k b.value.left) ≡ b.value.left_root = sym (left_at hash node d b k is next h) in
        rw (split_map, way_right right) (side_path Right (map_path hash (value_at k b.value.right) (way_from (256 - k) k key)) b.value.left_root (path_forked_right hash (value_at k b.value.left) (value_at k b.value.right) (way_from (256 - k) k key) (256 - k) (length-way_from (256 - k) k key) ∙ ap (λ r. map_path hash (value_at k b.value.right) (way_from (256 - k) k key) ++ r ∷ []) beside))

    pub path_in_left : is_right key b.value.depth ≡ false → map_path hash (value_at d node) (way_from (256 - d) d key) ≡ (map_path hash (value_at k b.value.left) (way_from (256 - k) k key) ++ b.value.right_root ∷ []) ++ drop (256 - b.value.depth) (empty_roots hash (256 - d))
    path_in_left left =
        let beside : map_root hash (256 - k) (value_at k b.value.right) ≡ b.value.right_root = sym (right_at hash node d b k is next h) in
        rw (split_map, way_left left) (side_path Left (map_path hash (value_at k b.value.left) (way_from (256 - k) k key)) b.value.right_root (path_forked_left hash (value_at k b.value.left) (value_at k b.value.right) (way_from (256 - k) k key) (256 - k) (length-way_from (256 - k) k key) ∙ ap (λ r. map_path hash (value_at k b.value.left) (way_from (256 - k) k key) ++ r ∷ []) beside))

    -- a value put below it
    module _ (new : Node) (put : _) (v : List ℕ) (is_new : new ≡ Branch put) (same : put.value.key ≡ b.value.key) (here : put.value.depth ≡ b.value.depth) where
      new_split : value_at d new ≡ behind (way_from (b.value.depth - d) d b.value.key) (forked (value_at k put.value.left) (value_at k put.value.right))
      new_split =
          values_branch new d put is_new
          ∙ ap (λ x. behind (way_from (put.value.depth - d) d x) (forked (value_at (suc put.value.depth) put.value.left) (value_at (suc put.value.depth) put.value.right))) same
          ∙ ap (λ n. behind (way_from (n - d) d b.value.key) (forked (value_at (suc n) put.value.left) (value_at (suc n) put.value.right))) here
          ∙ ap (λ n. behind (way_from (b.value.depth - d) d b.value.key) (forked (value_at n put.value.left) (value_at n put.value.right))) (sym next)

      pub sets_in_right : is_right key b.value.depth ≡ true → put.value.left ≡ b.value.left → Sets (value_at k b.value.right) (value_at k put.value.right) (way_from (256 - k) k key) v → Sets (value_at d node) (value_at d new) (way_from (256 - d) d key) v
      sets_in_right right beside sets =
          let e = way_from (b.value.depth - d) d b.value.key in
          let w = way_from (256 - k) k key in
          let l = value_at k b.value.left in
          rw (split_map, way_right right, new_split, beside) (sets_behind e (forked l (value_at k b.value.right)) (forked l (value_at k put.value.right)) (Right ∷ w) v (sets_right l (value_at k b.value.right) (value_at k put.value.right) w v sets))

      pub sets_in_left : is_right key b.value.depth ≡ false → put.value.right ≡ b.value.right → Sets (value_at k b.value.left) (value_at k put.value.left) (way_from (256 - k) k key) v → Sets (value_at d node) (value_at d new) (way_from (256 - d) d key) v
      sets_in_left left beside sets =
          let e = way_from (b.value.depth - d) d b.value.key in
          let w = way_from (256 - k) k key in
          let r = value_at k b.value.right in
          rw (split_map, way_left left, new_split, beside) (sets_behind e (forked (value_at k b.value.left) r) (forked (value_at k put.value.left) r) (Left ∷ w) v (sets_left (value_at k b.value.left) r (value_at k put.value.left) w v sets))

-- how many leaves there are
pub count_first : (old new : Node) (b : _) → old ≡ Empty → new ≡ Leaf b → leaf_count new ≡ leaf_count old + 1
unfolding leaf_count
count_first old new b is_old is_new = rw (is_old, is_new) refl

pub count_leaves : (old new : Node) (a b : _) → old ≡ Leaf a → new ≡ Leaf b → leaf_count new ≡ leaf_count old + 0
unfolding leaf_count
count_leaves old new a b is_old is_new = rw (is_old, is_new) refl

one_leaf : (node : Node) (leaf : _) → node ≡ Leaf leaf → leaf_count node ≡ 1
unfolding leaf_count
one_leaf node leaf is = rw is refl

module _ (old new : Node) where
  pub count_left_put : (a b : _) (k : ℕ) → old ≡ Branch a → new ≡ Branch b → b.value.right ≡ a.value.right → leaf_count b.value.left ≡ leaf_count a.value.left + k → leaf_count new ≡ leaf_count old + k
  unfolding leaf_count
  count_left_put a b k is_old is_new same put = rw (is_old, is_new) (let beside = ap leaf_count same in omega (arith, beside, put))

  pub count_right_put : (a b : _) (k : ℕ) → old ≡ Branch a → new ≡ Branch b → b.value.left ≡ a.value.left → leaf_count b.value.right ≡ leaf_count a.value.right + k → leaf_count new ≡ leaf_count old + k
  unfolding leaf_count
  count_right_put a b k is_old is_new same put = rw (is_old, is_new) (let beside = ap leaf_count same in omega (arith, beside, put))

  pub count_on_right : (b leaf : _) → new ≡ Branch b → b.value.left ≡ old → b.value.right ≡ Leaf leaf → leaf_count new ≡ leaf_count old + 1
  unfolding leaf_count
  count_on_right b leaf is_new beside put = rw is_new (let l = ap leaf_count beside in let r = one_leaf b.value.right leaf put in omega (arith, l, r))

  pub count_on_left : (b leaf : _) → new ≡ Branch b → b.value.right ≡ old → b.value.left ≡ Leaf leaf → leaf_count new ≡ leaf_count old + 1
  unfolding leaf_count
  count_on_left b leaf is_new beside put = rw is_new (let r = ap leaf_count beside in let l = one_leaf b.value.left leaf put in omega (arith, l, r))
