-- A verified leaf is the tree's own, or a collision is at hand.
use Rattle.std.proofs.Common.{◌≡◌, ℕ, zero, suc, ◌-◌, ◌^◌, ◌<◌, ◌≤◌, List, [], ◌∷◌, ◌++◌, length, get_or, take, drop, Some, true, false, ltb, inl, inr, sym, ◌∙◌, ap, arith}
use Rattle.std.specs.List.{All}
use Rattle.std.proofs.lemmas.Bool.{cases_lt}
use Rattle.std.proofs.lemmas.Bool.Decides.{nat_tests}
use Rattle.std.proofs.lemmas.List.{get_or_default}
use Rattle.warg_merkle.specs.Trees.{leaf_input, left_size, tree_hash_within, tree_hash, inclusion_path_within, inclusion_path, climb, sides, Includes, IsOwn}
use Rattle.warg_merkle.proofs.Climbs.{one_leaf}
use Rattle.warg_merkle.proofs.Paths.{own_path}

-- each of the hashes is one of 32 bytes
pub each_long : (ps : List (List ℕ)) → ((i : ℕ) → i < length ps → length (get_or ps i []) ≡ 32) → All (λ p. length p ≡ 32) ps
each_long ps h = λ k d below. ap length (get_or_default ps k d [] below) ∙ h k below

pub all_push : (ps : List (List ℕ)) (p : List ℕ) → All (λ x. length x ≡ 32) ps → length p ≡ 32 → All (λ x. length x ≡ 32) (ps ++ p ∷ [])
all_push [] p hs h zero d below = h
all_push [] p hs h (suc k) d below = absurd (omega arith)
all_push (q ∷ ps) p hs h zero d below = hs 0 d (omega arith)
all_push (q ∷ ps) p hs h (suc k) d below = all_push ps p (λ n e less. hs (suc n) e (omega arith)) h k d (omega arith)

-- a tree's own path is verified
pub own_verifies : (hash : List ℕ → List ℕ) (i : ℕ) (ds ps : List (List ℕ)) → i < length ds → length ds ≤ 2 ^ 64 → ps ≡ inclusion_path hash i ds → Includes hash (get_or ds i []) i (length ds) ps (tree_hash hash ds)
own_verifies hash i ds ps inside few is = record { in_tree = inside; reaches = ap (λ qs. climb hash (sides i (length ds)) qs (hash (leaf_input (get_or ds i [])))) is ∙ own_path hash i ds inside few }

module _ (hash : List ℕ → List ℕ) (long : (m : List ℕ) → length (hash m) ≡ 32) where
  root_within_long : (f : ℕ) (ds : List (List ℕ)) → length (tree_hash_within hash f ds) ≡ 32
  unfolding tree_hash_within
  root_within_long zero [] = long _
  root_within_long zero (d ∷ []) = long _
  root_within_long zero (d ∷ e ∷ ds) = long _
  root_within_long (suc f) [] = long _
  root_within_long (suc f) (d ∷ []) = long _
  root_within_long (suc f) (d ∷ e ∷ ds) = long _

  pub root_long : (ds : List (List ℕ)) → length (tree_hash hash ds) ≡ 32
  unfolding tree_hash
  root_long ds = root_within_long (length ds) ds

  path_within_long : (f i : ℕ) (ds : List (List ℕ)) → All (λ p. length p ≡ 32) (inclusion_path_within hash f i ds)
  unfolding inclusion_path_within
  path_within_long zero i ds = λ k d below. absurd (omega arith)
  path_within_long (suc f) i ds = elim (cases_lt 1 (length ds)) [
    | inr few ↦ let a : ltb 1 (length ds) ≡ false = grind (arith, nat_tests) in rw a (λ k d below. absurd (omega arith))
    | inl more ↦ let a : ltb 1 (length ds) ≡ true = grind (arith, nat_tests) in elim (cases_lt i (left_size (length ds))) [
      | inl low ↦ let b : ltb i (left_size (length ds)) ≡ true = grind (arith, nat_tests) in rw (a, b) (all_push _ _ (path_within_long f i (take (left_size (length ds)) ds)) (root_long (drop (left_size (length ds)) ds)))
      | inr high ↦ let b : ltb i (left_size (length ds)) ≡ false = grind (arith, nat_tests) in rw (a, b) (all_push _ _ (path_within_long f (i - left_size (length ds)) (drop (left_size (length ds)) ds)) (root_long (take (left_size (length ds)) ds)))
    ]
  ]

  pub path_long : (i : ℕ) (ds : List (List ℕ)) → All (λ p. length p ≡ 32) (inclusion_path hash i ds)
  unfolding inclusion_path
  path_long i ds = path_within_long (length ds) i ds

  -- a verified leaf is the tree's own, or what was hashed collides
  pub own_or_collision : (leaf : List ℕ) (index size : ℕ) (path : List (List ℕ)) (root : List ℕ) → All (λ p. length p ≡ 32) path → size ≤ 2 ^ 64 → Includes hash leaf index size path root → (ds : List (List ℕ)) → length ds ≡ size → tree_hash hash ds ≡ root → IsOwn hash ds leaf index path
  unfolding inclusion_path
  own_or_collision leaf index size path root hp most included ds same of_root =
      let inside : index < length ds = let below = included.in_tree in omega arith in
      let few : length ds ≤ 2 ^ 64 = omega arith in
      let own = own_path hash index ds inside few in
      let given : climb hash (sides index (length ds)) path (hash (leaf_input leaf)) ≡ Some (tree_hash hash ds) = ap (λ n. climb hash (sides index n) path (hash (leaf_input leaf))) same ∙ included.reaches ∙ ap (λ r. Some r) (sym of_root) in
      one_leaf hash long (sides index (length ds)) (inclusion_path hash index ds) path (get_or ds index []) leaf (tree_hash hash ds) (path_within_long (length ds) index ds) hp own given
