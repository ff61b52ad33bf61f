-- Proofs that a tree's leaves begin with those of an older tree.
use Rattle.std.specs.Prelude.{◌≡◌, ◌⊎◌, ℕ, zero, suc, ◌-◌, ◌/◌, ◌%◌, ◌^◌, ◌<◌, ◌≤◌, ◌==◌, nat_lt, Bool, true, false, if◌then◌else◌, List, [], ◌∷◌, ◌++◌, length, take, drop, Option, Some, None}
use Rattle.warg_merkle.specs.Trees.{IsLeftSize, Side, Left, Right, sides_within, node_input, left_size, tree_hash, climb_inputs, HaveCollision}

-- the place, on its level, of the largest whole subtree that ends at the leaf i
unfoldable pub start_index : ℕ → ℕ → ℕ
start_index zero i = i
start_index (suc g) i = if i % 2 == 1 then start_index g (i / 2) else i

-- the sides on the way up from that subtree, where the last leaf is n
unfoldable pub sides_from_start : ℕ → ℕ → ℕ → List Side
sides_from_start zero i n = []
sides_from_start (suc g) i n = if i % 2 == 1 then sides_from_start g (i / 2) (n / 2) else sides_within (suc g) i n

-- the sides on the way up from the last whole subtree of the first leaves of a tree of that size
abbrev pub extension_sides : ℕ → ℕ → List Side
extension_sides first size = sides_from_start 64 (first - 1) (size - 1)

-- of all leaves: the path is empty, and the roots are equal
pub record ExtendsAll (first size : ℕ) (path : List (List ℕ)) (old new : List ℕ) : Type 0 where
  pub some : 0 < first
  pub all : first ≡ size
  pub no_path : path ≡ []
  pub same : old ≡ new

module _ (hash : List ℕ → List ℕ) where
  -- the roots of the old tree and of the new one that a way up ends at, if it has a sibling for each side: what stands to
  -- the right of a hash is in the new tree alone
  unfoldable pub climb_both : List Side → List (List ℕ) → List ℕ → List ℕ → Option (List ℕ × List ℕ)
  climb_both [] [] old new = Some (old, new)
  climb_both [] (p ∷ ps) old new = None
  climb_both (s ∷ ss) [] old new = None
  climb_both (Left ∷ ss) (p ∷ ps) old new = climb_both ss ps old (hash (node_input new p))
  climb_both (Right ∷ ss) (p ∷ ps) old new = climb_both ss ps (hash (node_input p old)) (hash (node_input p new))

  -- the same, where the first hash is the whole subtree's
  abbrev pub climb_from : List Side → List (List ℕ) → Option (List ℕ × List ℕ)
  climb_from ss [] = None
  climb_from ss (start ∷ ps) = climb_both ss ps start start

  abbrev pub climb_inputs_from : List Side → List (List ℕ) → List (List ℕ)
  climb_inputs_from ss [] = []
  climb_inputs_from ss (start ∷ ps) = climb_inputs hash ss ps start

  -- where the first leaves are a whole subtree, their root is its hash, and the path does not have it
  abbrev pub with_start : ℕ → List ℕ → List (List ℕ) → List (List ℕ)
  with_start first old path = if start_index 64 (first - 1) == 0 then old ∷ path else path

  -- the path, of at most 64 hashes, leads from the whole subtree to both roots
  pub record Extends (first size : ℕ) (path : List (List ℕ)) (old new : List ℕ) : Type 0 where
    pub some : 0 < first
    pub more : first < size
    pub short : length path ≤ 64
    pub reaches : climb_from (extension_sides first size) (with_start first old path) ≡ Some (old, new)

  -- the whole subtree and the siblings on the way up, for the first leaves of a tree; f: at least the number of leaves
  unfoldable pub extension_within : ℕ → ℕ → List (List ℕ) → List (List ℕ)
  extension_within zero m ds = []
  extension_within (suc f) m ds = let k = left_size (length ds) in if nat_lt m (length ds) then (if nat_lt k m then extension_within f (m - k) (drop k ds) ++ tree_hash hash (take k ds) ∷ [] else extension_within f m (take k ds) ++ tree_hash hash (drop k ds) ∷ []) else tree_hash hash ds ∷ []

  -- the same with enough fuel
  unfoldable pub extension : ℕ → List (List ℕ) → List (List ℕ)
  extension m ds = extension_within (length ds) m ds

  -- the path for the first leaves of a tree: the same without the subtree that is the first leaves
  abbrev pub consistency_path : ℕ → List (List ℕ) → List (List ℕ)
  consistency_path m ds = if start_index 64 (m - 1) == 0 then drop 1 (extension m ds) else extension m ds

  -- of no leaves: the path is empty, and the old root that of no leaves
  pub record ExtendsNone (first size : ℕ) (path : List (List ℕ)) (old new : List ℕ) : Type 0 where
    pub none : first ≡ 0
    pub no_path : path ≡ []
    pub root : old ≡ hash []
    pub same : first ≡ size → old ≡ new

  -- the path shows that the first leaves of a tree of that size and root have the old root
  abbrev pub IsConsistent : ℕ → ℕ → List (List ℕ) → List ℕ → List ℕ → Type 0
  IsConsistent first size path old new = ExtendsNone first size path old new ⊎ ExtendsAll first size path old new ⊎ Extends first size path old new

  -- the hashes that show the first leaves; known: whether the reader has their root
  abbrev pub subproof : ℕ → List (List ℕ) → Bool → List (List ℕ)
  subproof m ds true = if m == length ds then [] else consistency_path m ds
  subproof m ds false = extension m ds

  -- they are those that RFC 9162 defines, of some leaves of a tree of at most 2 ^ 64
  pub record IsSubproof (sub : ℕ → List (List ℕ) → Bool → List (List ℕ)) : Type 0 where
    pub known : (ds : List (List ℕ)) → sub (length ds) ds true ≡ []
    pub whole : (ds : List (List ℕ)) → 0 < length ds → sub (length ds) ds false ≡ tree_hash hash ds ∷ []
    pub in_left : (m : ℕ) (ds : List (List ℕ)) (known : Bool) (k : ℕ) → length ds ≤ 2 ^ 64 → 0 < m → m < length ds → IsLeftSize (length ds) k → m ≤ k
        → sub m ds known ≡ sub m (take k ds) known ++ tree_hash hash (drop k ds) ∷ []
    pub in_right : (m : ℕ) (ds : List (List ℕ)) (known : Bool) (k : ℕ) → length ds ≤ 2 ^ 64 → m < length ds → IsLeftSize (length ds) k → k < m
        → sub m ds known ≡ sub (m - k) (drop k ds) false ++ tree_hash hash (take k ds) ∷ []

  -- a tree's proof that it begins with the tree of its first leaves: of none it is empty
  abbrev pub consistency_proof : ℕ → List (List ℕ) → List (List ℕ)
  consistency_proof m ds = if m == 0 then [] else subproof m ds true

  -- the old root is that of the tree's first leaves, and the path the tree's own, or what is hashed for the path and for
  -- the tree's own collides
  abbrev pub IsBeginning : List (List ℕ) → ℕ → List (List ℕ) → List ℕ → Type 0
  IsBeginning ds first path old = ((tree_hash hash (take first ds) ≡ old) × (consistency_proof first ds ≡ path)) ⊎ HaveCollision hash (climb_inputs_from (extension_sides first (length ds)) (extension first ds)) (climb_inputs_from (extension_sides first (length ds)) (with_start first old path))

  -- the own proof of each tree shows the root of its first leaves
  abbrev pub OwnPathsExtend : Type 0
  OwnPathsExtend = (first : ℕ) (ds : List (List ℕ)) → first ≤ length ds → length ds ≤ 2 ^ 63
      → IsConsistent first (length ds) (consistency_proof first ds) (tree_hash hash (take first ds)) (tree_hash hash ds)
