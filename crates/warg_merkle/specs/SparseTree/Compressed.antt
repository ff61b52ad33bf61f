-- Maps as trees that have a node only where two ways part, and the roots of these.
use Rattle.std.specs.Prelude.{◌≡◌, ℕ, ◌+◌, ◌-◌, List, [], ◌∷◌, length, Option, Some, None, ⊤}
use Rattle.warg_merkle.specs.Trees.{Side, Left, Right, leaf_input, node_input, step_input}
use Rattle.warg_merkle.specs.SparseMap.Maps.{empty_root}
use Rattle.warg_merkle.specs.SparseTree.Nodes.{below}

-- nothing, one value at the end of a way, or two trees behind an edge, where ways part
pub data Compressed : Type 0 where
  Nothing : Compressed
  Single : List Side → List ℕ → Compressed
  Fork : List Side → Compressed → Compressed → Compressed

-- the map behind the sides of an edge, with nothing beside it
unfoldable pub behind : List Side → (List Side → Option (List ℕ)) → List Side → Option (List ℕ)
behind [] m = m
behind (side ∷ edge) m = below side (behind edge m)

-- the map of one value where no side is left
abbrev pub alone : List ℕ → List Side → Option (List ℕ)
alone value [] = Some value
alone value (side ∷ way) = None

-- the map of two maps, one on each side
abbrev pub forked : (List Side → Option (List ℕ)) → (List Side → Option (List ℕ)) → List Side → Option (List ℕ)
forked left right [] = None
forked left right (Left ∷ way) = left way
forked left right (Right ∷ way) = right way

-- what a tree has at the end of a way
unfoldable pub values_in : Compressed → List Side → Option (List ℕ)
values_in Nothing = λ way. None
values_in (Single way value) = behind way (alone value)
values_in (Fork edge left right) = behind edge (forked (values_in left) (values_in right))

-- its ways have that many sides
unfoldable pub HasHeight : ℕ → Compressed → Type 0
HasHeight n Nothing = ⊤
HasHeight n (Single way value) = n ≡ length way
HasHeight n (Fork edge left right) = (h : ℕ) × ((n ≡ length edge + (h + 1)) × (HasHeight h left × HasHeight h right))

module _ (hash : List ℕ → List ℕ) where
  -- the root at the upper end of an edge, where this root is at its lower end, that many levels above the leaves
  unfoldable pub root_above : ℕ → List Side → List ℕ → List ℕ
  root_above height [] root = root
  root_above height (side ∷ edge) root = hash (step_input side (root_above height edge root) (empty_root hash (height + length edge)))

  -- the root of a tree whose ways have that many sides: a hash for each node and each side of an edge
  unfoldable pub compressed_root : ℕ → Compressed → List ℕ
  compressed_root n Nothing = empty_root hash n
  compressed_root n (Single way value) = root_above 0 way (hash (leaf_input value))
  compressed_root n (Fork edge left right) = let h = n - length edge in root_above h edge (hash (node_input (compressed_root (h - 1) left) (compressed_root (h - 1) right)))
