-- A change of a map, how many values a map has, and the roots of its empty subtrees.
use Rattle.std.specs.Prelude.{◌≡◌, ◌≢◌, ℕ, zero, suc, ◌+◌, if◌then◌else◌, is_some, List, [], ◌∷◌, ◌++◌, Option, Some, None}
use Rattle.warg_merkle.specs.Trees.{Side, Left, Right}
use Rattle.warg_merkle.specs.SparseMap.Maps.{is_right, empty_root}

-- the side that a key goes to at a depth
abbrev pub side_at : List ℕ → ℕ → Side
side_at key depth = if is_right key depth then Right else Left

-- a key's way through that many levels down from a depth
unfoldable pub way_from : ℕ → ℕ → List ℕ → List Side
way_from zero depth key = []
way_from (suc n) depth key = side_at key depth ∷ way_from n (suc depth) key

-- the new map has the value at the end of the way, and all else as the old one has it
pub record Sets (old new : List Side → Option (List ℕ)) (way : List Side) (value : List ℕ) : Type 0 where
  pub changed : new way ≡ Some value
  pub others : (other : List Side) → other ≢ way → new other ≡ old other

-- the map below one side of a node, with nothing below the other
abbrev pub below : Side → (List Side → Option (List ℕ)) → List Side → Option (List ℕ)
below side m [] = None
below Left m (Left ∷ way) = m way
below Left m (Right ∷ way) = None
below Right m (Left ∷ way) = None
below Right m (Right ∷ way) = m way

-- how many values a map over ways of that many sides has
unfoldable pub map_count : ℕ → (List Side → Option (List ℕ)) → ℕ
map_count zero m = if is_some (m []) then 1 else 0
map_count (suc d) m = map_count d (λ way. m (Left ∷ way)) + map_count d (λ way. m (Right ∷ way))

-- the roots of empty subtrees of that many heights from 0 up
unfoldable pub empty_roots : (List ℕ → List ℕ) → ℕ → List (List ℕ)
empty_roots hash zero = []
empty_roots hash (suc n) = empty_roots hash n ++ empty_root hash n ∷ []
