-- The root and the paths of a list of what has leaves, from those of its parts.
use Rattle.std.proofs.Common.{◌≡◌, ℕ, ◌-◌, ◌<◌, ◌≤◌, List, [], ◌∷◌, ◌++◌, length, map, take, drop, get_or, sym, ◌∙◌, ap, arith}
use Rattle.std.proofs.lemmas.List.{take-map, drop-map, length-map}
use Rattle.warg_merkle.specs.Trees.{leaf_input, node_input, left_size, tree_hash, inclusion_path}
use Rattle.warg_merkle.proofs.Paths.{root_empty, root_leaf, root_node, path_of_one, path_of_left, path_of_right}

module _ {A : Type 0} (hash : List ℕ → List ℕ) (f : A → List ℕ) where
  pub of_none : (xs : List A) → length xs < 1 → hash [] ≡ tree_hash hash (map f xs)
  of_none [] few = sym (root_empty hash)
  of_none (x ∷ xs) few = absurd (omega arith)

  pub of_first : (xs : List A) (d : A) → 1 ≤ length xs → length xs < 2 → hash (leaf_input (f (get_or xs 0 d))) ≡ tree_hash hash (map f xs)
  of_first [] d some few = absurd (omega arith)
  of_first (x ∷ []) d some few = sym (root_leaf hash (f x))
  of_first (x ∷ y ∷ xs) d some few = absurd (omega arith)

  pub of_parts : (xs front back : List A) (k : ℕ) (a b : List ℕ) → 1 < length xs → k ≡ left_size (length xs) → front ≡ take k xs → back ≡ drop k xs → a ≡ tree_hash hash (map f front) → b ≡ tree_hash hash (map f back) → hash (node_input a b) ≡ tree_hash hash (map f xs)
  of_parts xs front back k a b more is_k is_front is_back is_a is_b =
      let n : length (map f xs) ≡ length xs = length-map xs f in
      let k_is : left_size (length (map f xs)) ≡ k = ap left_size n ∙ sym is_k in
      let left : tree_hash hash (take (left_size (length (map f xs))) (map f xs)) ≡ a = ap (λ m. tree_hash hash (take m (map f xs))) k_is ∙ ap (tree_hash hash) (take-map f k xs) ∙ ap (λ ys. tree_hash hash (map f ys)) (sym is_front) ∙ sym is_a in
      let right : tree_hash hash (drop (left_size (length (map f xs))) (map f xs)) ≡ b = ap (λ m. tree_hash hash (drop m (map f xs))) k_is ∙ ap (tree_hash hash) (drop-map f k xs) ∙ ap (λ ys. tree_hash hash (map f ys)) (sym is_back) ∙ sym is_b in
      sym (root_node hash (map f xs) (omega arith) ∙ ap (λ h. hash (node_input h (tree_hash hash (drop (left_size (length (map f xs))) (map f xs))))) left ∙ ap (λ h. hash (node_input a h)) right)

  pub way_of_one : (xs : List A) (i : ℕ) → length xs ≤ 1 → [] ≡ inclusion_path hash i (map f xs)
  way_of_one xs i few = let n : length (map f xs) ≡ length xs = length-map xs f in sym (path_of_one hash i (map f xs) (omega arith))

  pub way_of_left : (xs front back : List A) (k i : ℕ) (ps : List (List ℕ)) (b : List ℕ) → 1 < length xs → k ≡ left_size (length xs) → front ≡ take k xs → back ≡ drop k xs → i < k → ps ≡ inclusion_path hash i (map f front) → b ≡ tree_hash hash (map f back) → ps ++ b ∷ [] ≡ inclusion_path hash i (map f xs)
  way_of_left xs front back k i ps b more is_k is_front is_back low is_ps is_b =
      let n : length (map f xs) ≡ length xs = length-map xs f in
      let k_is : left_size (length (map f xs)) ≡ k = ap left_size n ∙ sym is_k in
      let left : inclusion_path hash i (take (left_size (length (map f xs))) (map f xs)) ≡ ps = ap (λ m. inclusion_path hash i (take m (map f xs))) k_is ∙ ap (inclusion_path hash i) (take-map f k xs) ∙ ap (λ ys. inclusion_path hash i (map f ys)) (sym is_front) ∙ sym is_ps in
      let right : tree_hash hash (drop (left_size (length (map f xs))) (map f xs)) ≡ b = ap (λ m. tree_hash hash (drop m (map f xs))) k_is ∙ ap (tree_hash hash) (drop-map f k xs) ∙ ap (λ ys. tree_hash hash (map f ys)) (sym is_back) ∙ sym is_b in
      sym (path_of_left hash i (map f xs) (omega arith) (omega arith) ∙ ap (λ qs. qs ++ tree_hash hash (drop (left_size (length (map f xs))) (map f xs)) ∷ []) left ∙ ap (λ h. ps ++ h ∷ []) right)

  pub way_of_right : (xs front back : List A) (k i : ℕ) (ps : List (List ℕ)) (a : List ℕ) → 1 < length xs → k ≡ left_size (length xs) → front ≡ take k xs → back ≡ drop k xs → k ≤ i → ps ≡ inclusion_path hash (i - k) (map f back) → a ≡ tree_hash hash (map f front) → ps ++ a ∷ [] ≡ inclusion_path hash i (map f xs)
  way_of_right xs front back k i ps a more is_k is_front is_back high is_ps is_a =
      let n : length (map f xs) ≡ length xs = length-map xs f in
      let k_is : left_size (length (map f xs)) ≡ k = ap left_size n ∙ sym is_k in
      let right : inclusion_path hash (i - left_size (length (map f xs))) (drop (left_size (length (map f xs))) (map f xs)) ≡ ps = ap (λ m. inclusion_path hash (i - m) (drop m (map f xs))) k_is ∙ ap (inclusion_path hash (i - k)) (drop-map f k xs) ∙ ap (λ ys. inclusion_path hash (i - k) (map f ys)) (sym is_back) ∙ sym is_ps in
      let left : tree_hash hash (take (left_size (length (map f xs))) (map f xs)) ≡ a = ap (λ m. tree_hash hash (take m (map f xs))) k_is ∙ ap (tree_hash hash) (take-map f k xs) ∙ ap (λ ys. tree_hash hash (map f ys)) (sym is_front) ∙ sym is_a in
      sym (path_of_right hash i (map f xs) (omega arith) (omega arith) ∙ ap (λ qs. qs ++ tree_hash hash (take (left_size (length (map f xs))) (map f xs)) ∷ []) right ∙ ap (λ h. ps ++ h ∷ []) left)
