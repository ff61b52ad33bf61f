-- A tree's own paths lead to its root.
use Rattle.std.proofs.Common.{◌≡◌, ℕ, zero, suc, ◌+◌, ◌-◌, ◌^◌, ◌<◌, ◌≤◌, ltb, true, false, List, [], ◌∷◌, ◌++◌, length, get_or, take, drop, Some, inl, inr, refl, sym, ◌∙◌, ap, arith}
use Rattle.std.proofs.Math.Nat.{pow-succ'}
use Rattle.std.proofs.lemmas.Bool.{cases_lt}
use Rattle.std.proofs.lemmas.Bool.Decides.{nat_tests}
use Rattle.std.proofs.lemmas.List.{length-take-le, length-drop, get_or-take, get_or-drop}
use Rattle.warg_merkle.specs.Trees.{IsRoot, IsPath, Side, Left, Right, step_input, node_input, leaf_input, left_size, tree_hash_within, tree_hash, inclusion_path_within, inclusion_path, climb, sides, sides_within}
use Rattle.warg_merkle.proofs.Sizes.{left_part, left_pos, power_order, is_left_size}
use Rattle.warg_merkle.proofs.Levels.{at_top, in_left, in_right}

module _ (hash : List ℕ → List ℕ) where
  -- more fuel than leaves gives one root
  pub enough : (f g : ℕ) (ds : List (List ℕ)) → length ds ≤ f → length ds ≤ g → tree_hash_within hash f ds ≡ tree_hash_within hash g ds
  unfolding tree_hash_within
  enough zero zero ds hf hg = refl
  enough zero (suc g) [] hf hg = refl
  enough zero (suc g) (d ∷ ds) hf hg = absurd (omega arith)
  enough (suc f) zero [] hf hg = refl
  enough (suc f) zero (d ∷ ds) hf hg = absurd (omega arith)
  enough (suc f) (suc g) [] hf hg = refl
  enough (suc f) (suc g) (d ∷ []) hf hg = refl
  enough (suc f) (suc g) (d ∷ e ∷ ds) hf hg =
      let all : List (List ℕ) = d ∷ e ∷ ds in
      let part = left_part (length all) (omega arith) in
      let k : ℕ = left_size (length all) in
      let lt = length-take-le k all (omega (arith, part.below)) in
      let ld = length-drop k all in
      let pos = left_pos (length all) (omega arith) in
      let left = enough f g (take k all) (omega (arith, lt, part.below)) (omega (arith, lt, part.below)) in
      let right = enough f g (drop k all) (omega (arith, ld, pos)) (omega (arith, ld, pos)) in
      ap hash (ap (λ h. node_input h (tree_hash_within hash f (drop k all))) left ∙ ap (λ h. node_input (tree_hash_within hash g (take k all)) h) right)

  pub root_empty : tree_hash hash [] ≡ hash []
  unfolding tree_hash tree_hash_within
  root_empty = refl

  pub root_leaf : (d : List ℕ) → tree_hash hash (d ∷ []) ≡ hash (leaf_input d)
  unfolding tree_hash tree_hash_within
  root_leaf d = refl

  -- the root of two leaves or more
  pub root_node : (ds : List (List ℕ)) → 1 < length ds → tree_hash hash ds ≡ hash (node_input (tree_hash hash (take (left_size (length ds)) ds)) (tree_hash hash (drop (left_size (length ds)) ds)))
  unfolding tree_hash tree_hash_within
  root_node [] more = absurd (omega arith)
  root_node (d ∷ []) more = absurd (omega arith)
  root_node (d ∷ e ∷ ds) more =
      let all : List (List ℕ) = d ∷ e ∷ ds in
      let k : ℕ = left_size (length all) in
      let part = left_part (length all) more in
      let pos = left_pos (length all) more in
      let lt = length-take-le k all (omega (arith, part.below)) in
      let ld = length-drop k all in
      let left = enough (suc (length ds)) (length (take k all)) (take k all) (omega (arith, lt, part.below)) (omega arith) in
      let right = enough (suc (length ds)) (length (drop k all)) (drop k all) (omega (arith, ld, pos)) (omega arith) in
      ap hash (ap (λ h. node_input h (tree_hash_within hash (suc (length ds)) (drop k all))) left ∙ ap (λ h. node_input (tree_hash_within hash (length (take k all)) (take k all)) h) right)

  -- one step more at the top of a way up
  pub climb_more : (ss : List Side) (ps : List (List ℕ)) (s : Side) (p h r : List ℕ) → climb hash ss ps h ≡ Some r → climb hash (ss ++ s ∷ []) (ps ++ p ∷ []) h ≡ Some (hash (step_input s r p))
  unfolding climb
  climb_more [] [] s p h r e = let same : h ≡ r = cc in ap (λ x. Some (hash (step_input s x p))) same
  climb_more [] (q ∷ ps) s p h r e = cc
  climb_more (t ∷ ss) [] s p h r e = cc
  climb_more (t ∷ ss) (q ∷ ps) s p h r e = climb_more ss ps s p (hash (step_input t h q)) r e

  climb_none : (h : List ℕ) → climb hash [] [] h ≡ Some h
  unfolding climb
  climb_none h = refl

  path_left : (f i : ℕ) (ds : List (List ℕ)) → 1 < length ds → i < left_size (length ds) → inclusion_path_within hash (suc f) i ds ≡ inclusion_path_within hash f i (take (left_size (length ds)) ds) ++ tree_hash hash (drop (left_size (length ds)) ds) ∷ []
  unfolding inclusion_path_within
  path_left f i ds more low = let a : ltb 1 (length ds) ≡ true = grind (arith, nat_tests) in let b : ltb i (left_size (length ds)) ≡ true = grind (arith, nat_tests) in rw (a, b) refl

  path_right : (f i : ℕ) (ds : List (List ℕ)) → 1 < length ds → left_size (length ds) ≤ i → inclusion_path_within hash (suc f) i ds ≡ inclusion_path_within hash f (i - left_size (length ds)) (drop (left_size (length ds)) ds) ++ tree_hash hash (take (left_size (length ds)) ds) ∷ []
  unfolding inclusion_path_within
  path_right f i ds more high = let a : ltb 1 (length ds) ≡ true = grind (arith, nat_tests) in let b : ltb i (left_size (length ds)) ≡ false = grind (arith, nat_tests) in rw (a, b) refl

  -- a single leaf
  path_leaf : (f i g : ℕ) (ds : List (List ℕ)) → i < length ds → length ds ≤ 1 → climb hash (sides_within g i (length ds - 1)) (inclusion_path_within hash (suc f) i ds) (hash (leaf_input (get_or ds i []))) ≡ Some (tree_hash hash ds)
  unfolding inclusion_path_within
  path_leaf f i g [] inside few = absurd (omega arith)
  path_leaf f (suc i) g (d ∷ []) inside few = absurd (omega arith)
  path_leaf f zero g (d ∷ []) inside few = rw (at_top g, root_leaf d) (climb_none (hash (leaf_input d)))
  path_leaf f i g (d ∷ e ∷ ds) inside few = absurd (omega arith)

  -- what reaches_within says at a fuel, a place and some leaves
  abbrev Reaches : ℕ → ℕ → ℕ → List (List ℕ) → Type 0
  Reaches f g i ds = climb hash (sides_within g i (length ds - 1)) (inclusion_path_within hash f i ds) (hash (leaf_input (get_or ds i []))) ≡ Some (tree_hash hash ds)

  by_left : (f g i : ℕ) (ds : List (List ℕ)) → 1 < length ds → i < left_size (length ds) → length ds ≤ suc f → length ds ≤ 2 ^ g → (i < length (take (left_size (length ds)) ds) → length (take (left_size (length ds)) ds) ≤ f → length (take (left_size (length ds)) ds) ≤ 2 ^ g → Reaches f g i (take (left_size (length ds)) ds)) → Reaches (suc f) g i ds
  by_left f g i ds more low hf hg before =
      let k : ℕ = left_size (length ds) in
      let part = left_part (length ds) more in
      let j : ℕ = part.power in
      let is = part.is_power in
      let below = part.below in
      let largest = part.largest in
      let twice = pow-succ' 2 j in
      let deep : j < g = power_order j g (omega arith) in
      let lt : length (take k ds) ≡ k = length-take-le k ds (omega arith) in
      let here : Reaches f g i (take k ds) = before (omega arith) (omega arith) (omega arith) in
      let up = climb_more (sides_within g i (length (take k ds) - 1)) (inclusion_path_within hash f i (take k ds)) Left (tree_hash hash (drop k ds)) (hash (leaf_input (get_or (take k ds) i []))) (tree_hash hash (take k ds)) here in
      let way : sides_within g i (length ds - 1) ≡ sides_within g i (length (take k ds) - 1) ++ Left ∷ [] = in_left g j i (length ds - 1) deep (omega arith) (omega arith) (omega arith) ∙ ap (λ n. sides_within g i (n - 1) ++ Left ∷ []) (sym is ∙ sym lt) in
      let leaf : get_or ds i [] ≡ get_or (take k ds) i [] = sym (get_or-take k ds i [] low) in
      ap (λ ss. climb hash ss (inclusion_path_within hash (suc f) i ds) (hash (leaf_input (get_or ds i [])))) way
      ∙ ap (λ ps. climb hash (sides_within g i (length (take k ds) - 1) ++ Left ∷ []) ps (hash (leaf_input (get_or ds i [])))) (path_left f i ds more low)
      ∙ ap (λ d. climb hash (sides_within g i (length (take k ds) - 1) ++ Left ∷ []) (inclusion_path_within hash f i (take k ds) ++ tree_hash hash (drop k ds) ∷ []) (hash (leaf_input d))) leaf
      ∙ up ∙ ap (λ r. Some r) (sym (root_node ds more))

  by_right : (f g i : ℕ) (ds : List (List ℕ)) → 1 < length ds → left_size (length ds) ≤ i → i < length ds → length ds ≤ suc f → length ds ≤ 2 ^ g → (i - left_size (length ds) < length (drop (left_size (length ds)) ds) → length (drop (left_size (length ds)) ds) ≤ f → length (drop (left_size (length ds)) ds) ≤ 2 ^ g → Reaches f g (i - left_size (length ds)) (drop (left_size (length ds)) ds)) → Reaches (suc f) g i ds
  by_right f g i ds more high inside hf hg before =
      let k : ℕ = left_size (length ds) in
      let part = left_part (length ds) more in
      let j : ℕ = part.power in
      let is = part.is_power in
      let below = part.below in
      let largest = part.largest in
      let twice = pow-succ' 2 j in
      let pos = left_pos (length ds) more in
      let deep : j < g = power_order j g (omega arith) in
      let ld : length (drop k ds) ≡ length ds - k = length-drop k ds in
      let here : Reaches f g (i - k) (drop k ds) = before (omega arith) (omega arith) (omega arith) in
      let up = climb_more (sides_within g (i - k) (length (drop k ds) - 1)) (inclusion_path_within hash f (i - k) (drop k ds)) Right (tree_hash hash (take k ds)) (hash (leaf_input (get_or (drop k ds) (i - k) []))) (tree_hash hash (drop k ds)) here in
      let way : sides_within g i (length ds - 1) ≡ sides_within g (i - k) (length (drop k ds) - 1) ++ Right ∷ [] = in_right g j i (length ds - 1) (i - k) (length (drop k ds) - 1) deep (omega arith) (omega arith) (omega arith) (omega arith) in
      let place : i ≡ k + (i - k) = omega arith in
      let leaf : get_or ds i [] ≡ get_or (drop k ds) (i - k) [] = ap (λ n. get_or ds n []) place ∙ sym (get_or-drop k ds (i - k) []) in
      ap (λ ss. climb hash ss (inclusion_path_within hash (suc f) i ds) (hash (leaf_input (get_or ds i [])))) way
      ∙ ap (λ ps. climb hash (sides_within g (i - k) (length (drop k ds) - 1) ++ Right ∷ []) ps (hash (leaf_input (get_or ds i [])))) (path_right f i ds more high)
      ∙ ap (λ d. climb hash (sides_within g (i - k) (length (drop k ds) - 1) ++ Right ∷ []) (inclusion_path_within hash f (i - k) (drop k ds) ++ tree_hash hash (take k ds) ∷ []) (hash (leaf_input d))) leaf
      ∙ up ∙ ap (λ r. Some r) (sym (root_node ds more))

  -- a tree's own path leads to its root
  pub reaches_within : (f g i : ℕ) (ds : List (List ℕ)) → i < length ds → length ds ≤ f → length ds ≤ 2 ^ g → climb hash (sides_within g i (length ds - 1)) (inclusion_path_within hash f i ds) (hash (leaf_input (get_or ds i []))) ≡ Some (tree_hash hash ds)
  reaches_within zero g i ds inside hf hg = absurd (omega arith)
  reaches_within (suc f) g i ds inside hf hg = elim (cases_lt 1 (length ds)) [
    | inr few ↦ path_leaf f i g ds inside few
    | inl more ↦ elim (cases_lt i (left_size (length ds))) [
      | inl low ↦ by_left f g i ds more low hf hg (reaches_within f g i (take (left_size (length ds)) ds))
      | inr high ↦ by_right f g i ds more high inside hf hg (reaches_within f g (i - left_size (length ds)) (drop (left_size (length ds)) ds))
    ]
  ]

  -- a tree's own path leads to its root
  pub own_path : (i : ℕ) (ds : List (List ℕ)) → i < length ds → length ds ≤ 2 ^ 64 → climb hash (sides i (length ds)) (inclusion_path hash i ds) (hash (leaf_input (get_or ds i []))) ≡ Some (tree_hash hash ds)
  unfolding inclusion_path
  own_path i ds inside few = reaches_within (length ds) 64 i ds inside (omega arith) few

  path_alone : (f i : ℕ) (ds : List (List ℕ)) → length ds ≤ 1 → inclusion_path_within hash (suc f) i ds ≡ []
  unfolding inclusion_path_within
  path_alone f i ds few = let a : ltb 1 (length ds) ≡ false = grind (arith, nat_tests) in rw a refl

  path_none : (f i : ℕ) (ds : List (List ℕ)) → length ds ≤ 1 → inclusion_path_within hash f i ds ≡ []
  unfolding inclusion_path_within
  path_none zero i ds few = refl
  path_none (suc f) i ds few = path_alone f i ds few

  -- more fuel than leaves gives one path
  path_enough : (f g i : ℕ) (ds : List (List ℕ)) → length ds ≤ f → length ds ≤ g → inclusion_path_within hash f i ds ≡ inclusion_path_within hash g i ds
  path_enough zero g i ds hf hg = path_none zero i ds (omega arith) ∙ sym (path_none g i ds (omega arith))
  path_enough (suc f) zero i ds hf hg = path_none (suc f) i ds (omega arith) ∙ sym (path_none zero i ds (omega arith))
  path_enough (suc f) (suc g) i ds hf hg =
      let k : ℕ = left_size (length ds) in
      elim (cases_lt 1 (length ds)) [
        | inr few ↦ path_none (suc f) i ds few ∙ sym (path_none (suc g) i ds few)
        | inl more ↦
            let part = left_part (length ds) more in
            let below = part.below in
            let pos = left_pos (length ds) more in
            elim (cases_lt i k) [
              | inl low ↦
                  let lt : length (take k ds) ≡ k = length-take-le k ds (omega arith) in
                  path_left f i ds more low ∙ ap (λ ps. ps ++ tree_hash hash (drop k ds) ∷ []) (path_enough f g i (take k ds) (omega arith) (omega arith)) ∙ sym (path_left g i ds more low)
              | inr high ↦
                  let ld : length (drop k ds) ≡ length ds - k = length-drop k ds in
                  path_right f i ds more high ∙ ap (λ ps. ps ++ tree_hash hash (take k ds) ∷ []) (path_enough f g (i - k) (drop k ds) (omega arith) (omega arith)) ∙ sym (path_right g i ds more high)
            ]
      ]

  -- the path of a single leaf, and of a leaf of each part of a tree
  pub path_of_one : (i : ℕ) (ds : List (List ℕ)) → length ds ≤ 1 → inclusion_path hash i ds ≡ []
  unfolding inclusion_path
  path_of_one i ds few = path_none (length ds) i ds few

  pub path_of_left : (i : ℕ) (ds : List (List ℕ)) → 1 < length ds → i < left_size (length ds) → inclusion_path hash i ds ≡ inclusion_path hash i (take (left_size (length ds)) ds) ++ tree_hash hash (drop (left_size (length ds)) ds) ∷ []
  unfolding inclusion_path
  path_of_left i ds more low =
      let k : ℕ = left_size (length ds) in
      let part = left_part (length ds) more in
      let below = part.below in
      let lt : length (take k ds) ≡ k = length-take-le k ds (omega arith) in
      path_enough (length ds) (suc (length ds)) i ds (omega arith) (omega arith) ∙ path_left (length ds) i ds more low ∙ ap (λ ps. ps ++ tree_hash hash (drop k ds) ∷ []) (path_enough (length ds) (length (take k ds)) i (take k ds) (omega arith) (omega arith))

  pub path_of_right : (i : ℕ) (ds : List (List ℕ)) → 1 < length ds → left_size (length ds) ≤ i → inclusion_path hash i ds ≡ inclusion_path hash (i - left_size (length ds)) (drop (left_size (length ds)) ds) ++ tree_hash hash (take (left_size (length ds)) ds) ∷ []
  unfolding inclusion_path
  path_of_right i ds more high =
      let k : ℕ = left_size (length ds) in
      let ld : length (drop k ds) ≡ length ds - k = length-drop k ds in
      path_enough (length ds) (suc (length ds)) i ds (omega arith) (omega arith) ∙ path_right (length ds) i ds more high ∙ ap (λ ps. ps ++ tree_hash hash (take k ds) ∷ []) (path_enough (length ds) (length (drop k ds)) (i - k) (drop k ds) (omega arith) (omega arith))

  pub is_root : IsRoot hash (tree_hash hash)
  is_root = record {
    empty = root_empty;
    leaf = root_leaf;
    node = λ ds k more h. root_node ds more ∙ ap (λ n. hash (node_input (tree_hash hash (take n ds)) (tree_hash hash (drop n ds)))) (is_left_size (length ds) k more h);
  }

  pub is_path : IsPath hash (inclusion_path hash)
  is_path = record {
    leaf = λ i d. path_of_one i (d ∷ []) (omega arith);
    in_left = λ i ds k more h low. let e = is_left_size (length ds) k more h in path_of_left i ds more (omega arith) ∙ ap (λ n. inclusion_path hash i (take n ds) ++ tree_hash hash (drop n ds) ∷ []) e;
    in_right = λ i ds k more h high. let e = is_left_size (length ds) k more h in path_of_right i ds more (omega arith) ∙ ap (λ n. inclusion_path hash (i - n) (drop n ds) ++ tree_hash hash (take n ds) ∷ []) e;
  }
