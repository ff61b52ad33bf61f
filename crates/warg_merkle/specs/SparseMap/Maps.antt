-- Sparse Merkle maps over a hash: a whole tree with a leaf for each key, most of them empty.
use Rattle.std.specs.Prelude.{◌≡◌, ◌⊎◌, ℕ, zero, suc, ◌-◌, ◌/◌, ◌%◌, ◌^◌, ◌<◌, ◌==◌, Bool, if◌then◌else◌, List, [], ◌∷◌, ◌++◌, reverse, length, slice_index, Option, Some, None}
use Rattle.warg_merkle.specs.Trees.{Side, Left, Right, leaf_input, node_input, climb, climb_inputs, HaveCollision}

-- the bit of a key at a depth from the root: the first bit of the first byte is at the root
unfoldable pub is_right : List ℕ → ℕ → Bool
is_right key depth = slice_index key (depth / 8) / 2 ^ (7 - depth % 8) % 2 == 1

-- the sides on the way up from that depth of a key
unfoldable pub sides_up : ℕ → List ℕ → List Side
sides_up zero key = []
sides_up (suc n) key = (if is_right key n then Right else Left) ∷ sides_up n key

-- a key's way from the root down to its leaf
abbrev pub way_down : List ℕ → List Side
way_down key = reverse (sides_up 256 key)

-- the bytes of a key
pub record IsKey (key : List ℕ) : Type 0 where
  pub long : length key ≡ 32
  pub bytes : (i : ℕ) → slice_index key i < 256

-- what is hashed at the leaf of a key
abbrev pub value_input : Option (List ℕ) → List ℕ
value_input None = []
value_input (Some v) = leaf_input v

module _ (hash : List ℕ → List ℕ) where
  -- the root of a map over ways of that many sides
  unfoldable pub map_root : ℕ → (List Side → Option (List ℕ)) → List ℕ
  map_root zero m = hash (value_input (m []))
  map_root (suc d) m = hash (node_input (map_root d (λ way. m (Left ∷ way))) (map_root d (λ way. m (Right ∷ way))))

  -- the siblings on the way up from the leaf at the end of a way
  unfoldable pub map_path : (List Side → Option (List ℕ)) → List Side → List (List ℕ)
  map_path m [] = []
  map_path m (Left ∷ way) = map_path (λ w. m (Left ∷ w)) way ++ map_root (length way) (λ w. m (Right ∷ w)) ∷ []
  map_path m (Right ∷ way) = map_path (λ w. m (Right ∷ w)) way ++ map_root (length way) (λ w. m (Left ∷ w)) ∷ []

  -- the path leads from what stands at the key to the root
  abbrev pub Leads : Option (List ℕ) → List ℕ → List (List ℕ) → List ℕ → Type 0
  Leads value key path root = climb hash (sides_up 256 key) path (hash (value_input value)) ≡ Some root

  -- all that is hashed where a path is tried
  abbrev pub path_inputs : Option (List ℕ) → List ℕ → List (List ℕ) → List (List ℕ)
  path_inputs value key path = value_input value ∷ climb_inputs hash (sides_up 256 key) path (hash (value_input value))

  -- the value and the path are the map's own, or what is hashed for them and for the map's own collides
  abbrev pub IsOwn : (List Side → Option (List ℕ)) → Option (List ℕ) → List ℕ → List (List ℕ) → Type 0
  IsOwn m value key path = ((m (way_down key) ≡ value) × (map_path m (way_down key) ≡ path)) ⊎ HaveCollision hash (path_inputs (m (way_down key)) key (map_path m (way_down key))) (path_inputs value key path)

  -- the root of an empty map
  unfoldable pub empty_root : ℕ → List ℕ
  empty_root zero = hash []
  empty_root (suc d) = hash (node_input (empty_root d) (empty_root d))
