-- What the stored nodes hold.
use Rattle.std.specs.Prelude.{◌≡◌, ◌≢◌, ◌<◌, ◌≤◌, ℕ, suc, ◌+◌, ◌-◌, List, Option, ⊤}
use Rattle.std.specs.Coded.{×_prop, Unit-prop, le_prop, Coded-set, coded_list, coded_ℕ}
use Rattle.warg_merkle.specs.Trees.{Side, leaf_input}
use Rattle.warg_merkle.specs.SparseMap.Maps.{is_right, map_root}
use Rattle.warg_merkle.specs.SparseTree.Nodes.{way_from}
use Rattle.warg_merkle.specs.SparseTree.Compressed.{Compressed, Nothing, Single, Fork, values_in, root_above}
use Rattle.warg_merkle.specs.declared.sparse_tree.node.Node.{Node}
use Rattle.warg_merkle.specs.declared.sparse_tree.node.Node.TheVariants.{Empty, Leaf, Branch'}

-- the tree that a node stands for at a depth
unfoldable pub tree_at : ℕ → Node → Compressed
tree_at depth Empty = Nothing
tree_at depth (Leaf leaf) = Single (way_from (256 - depth) depth leaf.value.key) leaf.value.value.items
tree_at depth (Branch' p key at left_root right_root left right) = Fork (way_from (at - depth) depth key) (tree_at (suc at) left) (tree_at (suc at) right)

-- what stands at the end of a way down from a node at that depth
abbrev pub value_at : ℕ → Node → List Side → Option (List ℕ)
value_at depth node = values_in (tree_at depth node)

-- how many leaves there are
unfoldable pub leaf_count : Node → ℕ
leaf_count Empty = 0
leaf_count (Leaf leaf) = 1
leaf_count (Branch' p key at left_root right_root left right) = leaf_count left + leaf_count right

-- from a depth on the keys go the same sides up to another
abbrev pub AreAlike : ℕ → ℕ → List ℕ → List ℕ → Type 0
AreAlike depth end key other = (i : ℕ) → depth ≤ i → i < end → is_right key i ≡ is_right other i

-- they part there, before that end
pub record PartAt (depth end : ℕ) (key other : List ℕ) (at : ℕ) : Type 0 where
  pub from : depth ≤ at
  pub inside : at < end
  pub alike : AreAlike depth at key other
  pub differ : is_right key at ≢ is_right other at

-- the key's way leaves the edge above a node there
unfoldable pub LeavesAt : ℕ → List ℕ → Node → ℕ → Type 0
LeavesAt depth key Empty at = ⊥
LeavesAt depth key (Leaf leaf) at = PartAt depth 256 key leaf.value.key at
LeavesAt depth key (Branch' p other end left_root right_root left right) at = PartAt depth end key other at

-- it goes along the whole edge
unfoldable pub Follows : ℕ → List ℕ → Node → Type 0
Follows depth key Empty = ⊤
Follows depth key (Leaf leaf) = AreAlike depth 256 key leaf.value.key
Follows depth key (Branch' p other end left_root right_root left right) = AreAlike depth end key other

module _ (hash : List ℕ → List ℕ) where
  -- the root that a leaf keeps: at the depth 48, with nothing beside it
  abbrev pub IsKept : List ℕ → List ℕ → List ℕ → Type 0
  IsKept key value kept = kept ≡ root_above hash 0 (way_from 208 48 key) (hash (leaf_input value))

  -- a node at that depth has each root that it keeps
  unfoldable pub IsHashed : ℕ → Node → Type 0
  IsHashed depth Empty = ⊤
  IsHashed depth (Leaf leaf) = IsKept leaf.value.key leaf.value.value.items leaf.value.kept
  IsHashed depth (Branch' p key at left_root right_root left right) = ((depth ≤ at) × (at < 256)) × (((left_root ≡ map_root hash (255 - at) (value_at (suc at) left)) × (right_root ≡ map_root hash (255 - at) (value_at (suc at) right))) × (IsHashed (suc at) left × IsHashed (suc at) right))

  -- which is one fact
  pub IsHashed-prop : (depth : ℕ) (node : Node) → IsProp (IsHashed depth node)
  unfolding IsHashed
  IsHashed-prop depth Empty = Unit-prop
  IsHashed-prop depth (Leaf leaf) = Coded-set (coded_list coded_ℕ) leaf.value.kept _
  IsHashed-prop depth (Branch' p key at left_root right_root left right) = ×_prop (×_prop le_prop le_prop) (×_prop (×_prop (Coded-set (coded_list coded_ℕ) left_root _) (Coded-set (coded_list coded_ℕ) right_root _)) (×_prop (IsHashed-prop (suc at) left) (IsHashed-prop (suc at) right)))
