-- A map's own paths lead to its root, and another path does only where what is hashed collides.
use Rattle.std.proofs.Common.{◌≡◌, ◌⊎◌, ℕ, zero, suc, List, [], ◌∷◌, ◌++◌, length, reverse, Option, Some, None, inl, inr, refl, sym, ◌∙◌, ap, arith}
use Rattle.std.specs.List.{All}
use Rattle.std.proofs.lemmas.List.{length-reverse, reverse-reverse, reverse-append}
use Rattle.warg_merkle.specs.Trees.{Side, Left, Right, node_input, climb, climb_inputs, HaveCollision}
use Rattle.warg_merkle.proofs.Climbs.{same_or_not, later, at_once, one_way}
use Rattle.warg_merkle.proofs.Paths.{climb_more}
use Rattle.warg_merkle.proofs.Sound.{all_push}
use Rattle.warg_merkle.specs.SparseMap.Maps.{sides_up, way_down, value_input, map_root, map_path, Leads, IsOwn, empty_root}

pub long_way : (n : ℕ) (key : List ℕ) → length (sides_up n key) ≡ n
unfolding sides_up
long_way zero key = refl
long_way (suc n) key = ap (λ k. suc k) (long_way n key)

-- what is hashed at a leaf says what stands there
same_value : (v w : Option (List ℕ)) → value_input v ≡ value_input w → v ≡ w
same_value None None e = refl
same_value None (Some w) e = cc
same_value (Some v) None e = cc
same_value (Some v) (Some w) e = cc

reverse_more : (s : Side) (way : List Side) → reverse (s ∷ way) ≡ reverse way ++ s ∷ []
reverse_more s way = reverse-append (s ∷ []) way

module _ (hash : List ℕ → List ℕ) where
  climb_none : (h : List ℕ) → climb hash [] [] h ≡ Some h
  unfolding climb
  climb_none h = refl

  -- a map's own path leads to its root
  pub reaches : (m : List Side → Option (List ℕ)) (way : List Side) → climb hash (reverse way) (map_path hash m way) (hash (value_input (m way))) ≡ Some (map_root hash (length way) m)
  unfolding map_path map_root
  reaches m [] = climb_none (hash (value_input (m [])))
  reaches m (Left ∷ way) =
      ap (λ ss. climb hash ss (map_path hash (λ w. m (Left ∷ w)) way ++ map_root hash (length way) (λ w. m (Right ∷ w)) ∷ []) (hash (value_input (m (Left ∷ way))))) (reverse_more Left way)
      ∙ climb_more hash (reverse way) (map_path hash (λ w. m (Left ∷ w)) way) Left (map_root hash (length way) (λ w. m (Right ∷ w))) (hash (value_input (m (Left ∷ way)))) (map_root hash (length way) (λ w. m (Left ∷ w))) (reaches (λ w. m (Left ∷ w)) way)
  reaches m (Right ∷ way) =
      ap (λ ss. climb hash ss (map_path hash (λ w. m (Right ∷ w)) way ++ map_root hash (length way) (λ w. m (Left ∷ w)) ∷ []) (hash (value_input (m (Right ∷ way))))) (reverse_more Right way)
      ∙ climb_more hash (reverse way) (map_path hash (λ w. m (Right ∷ w)) way) Right (map_root hash (length way) (λ w. m (Left ∷ w))) (hash (value_input (m (Right ∷ way)))) (map_root hash (length way) (λ w. m (Right ∷ w))) (reaches (λ w. m (Right ∷ w)) way)

  -- the root of a map with nothing in it
  pub empty : (d : ℕ) → map_root hash d (λ way. None) ≡ empty_root hash d
  unfolding map_root empty_root
  empty zero = refl
  empty (suc d) = ap (λ h. hash (node_input h h)) (empty d)

  -- the same for a key
  pub own_leads : (m : List Side → Option (List ℕ)) (key : List ℕ) → Leads hash (m (way_down key)) key (map_path hash m (way_down key)) (map_root hash 256 m)
  own_leads m key =
      let way : List Side = way_down key in
      let long : length way ≡ 256 = length-reverse (sides_up 256 key) ∙ long_way 256 key in
      ap (λ ss. climb hash ss (map_path hash m way) (hash (value_input (m way)))) (sym (reverse-reverse (sides_up 256 key))) ∙ reaches m way ∙ ap (λ n. Some (map_root hash n m)) long

module _ (hash : List ℕ → List ℕ) (long : (m : List ℕ) → length (hash m) ≡ 32) where
  root_long : (d : ℕ) (m : List Side → Option (List ℕ)) → length (map_root hash d m) ≡ 32
  unfolding map_root
  root_long zero m = long _
  root_long (suc d) m = long _

  path_long : (m : List Side → Option (List ℕ)) (way : List Side) → All (λ p. length p ≡ 32) (map_path hash m way)
  unfolding map_path
  path_long m [] = λ k d below. absurd (omega arith)
  path_long m (Left ∷ way) = all_push _ _ (path_long (λ w. m (Left ∷ w)) way) (root_long (length way) (λ w. m (Right ∷ w)))
  path_long m (Right ∷ way) = all_push _ _ (path_long (λ w. m (Right ∷ w)) way) (root_long (length way) (λ w. m (Left ∷ w)))

  -- two values on ways up to one root
  pub one_value : (ss : List Side) (ps qs : List (List ℕ)) (v w : Option (List ℕ)) (r : List ℕ) → All (λ p. length p ≡ 32) ps → All (λ p. length p ≡ 32) qs → climb hash ss ps (hash (value_input v)) ≡ Some r → climb hash ss qs (hash (value_input w)) ≡ Some r → ((v ≡ w) × (ps ≡ qs)) ⊎ HaveCollision hash (value_input v ∷ climb_inputs hash ss ps (hash (value_input v))) (value_input w ∷ climb_inputs hash ss qs (hash (value_input w)))
  one_value ss ps qs v w r hp hq ev ew =
      elim (one_way hash long ss ps qs (hash (value_input v)) (hash (value_input w)) r hp hq (long _) (long _) ev ew) [
        | inr found ↦ inr (later hash long (value_input v) (value_input w) _ _ found)
        | inl (same, rest) ↦ elim (same_or_not (value_input v) (value_input w)) [
          | inr differ ↦ inr (at_once hash long (value_input v) (value_input w) _ _ differ same)
          | inl equal ↦ inl (same_value v w equal, rest)
        ]
      ]

  -- a verified value is the map's own, or what was hashed collides
  pub own_or_collision : (value : Option (List ℕ)) (key : List ℕ) (path : List (List ℕ)) (root : List ℕ) → All (λ p. length p ≡ 32) path → Leads hash value key path root → (m : List Side → Option (List ℕ)) → map_root hash 256 m ≡ root → IsOwn hash m value key path
  own_or_collision value key path root hp leads m of_root =
      one_value (sides_up 256 key) (map_path hash m (way_down key)) path (m (way_down key)) value (map_root hash 256 m) (path_long m (way_down key)) hp (own_leads hash m key) (leads ∙ ap (λ r. Some r) (sym of_root))
