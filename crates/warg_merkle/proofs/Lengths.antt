-- How long ways up and their paths are.
use Rattle.std.proofs.Common.{◌≡◌, ℕ, zero, suc, ◌+◌, ◌-◌, ◌/◌, ◌%◌, ◌^◌, ◌<◌, ◌≤◌, Bool, true, false, if◌then◌else◌, List, [], ◌∷◌, length, drop, Option, Some, inl, inr, refl, sym, ◌∙◌, ap, arith}
use Rattle.std.proofs.Math.Nat.{pow-succ'}
use Rattle.std.proofs.lemmas.Bool.{cases_eq, cases_lt}
use Rattle.std.proofs.lemmas.List.{length-drop}
use Rattle.warg_merkle.specs.Trees.{Side, Left, Right, step_input, node_input, leaf_input, climb, sides, sides_within, Includes}
use Rattle.warg_merkle.specs.Extensions.{sides_from_start, climb_both, climb_from}
use Rattle.warg_merkle.proofs.Levels.{odd_step, even_step, alone_step, at_top}
use Rattle.warg_merkle.proofs.JoinLevels.{odd_start, even_start}

no_levels : (i n : ℕ) → length (sides_within zero i n) ≡ 0
unfolding sides_within
no_levels i n = refl

no_start_levels : (i n : ℕ) → length (sides_from_start zero i n) ≡ 0
unfolding sides_from_start
no_start_levels i n = refl

-- at most a side for each level
pub sides_few : (g h i n : ℕ) → i ≤ n → n < 2 ^ h → length (sides_within g i n) ≤ h
sides_few zero h i n inside deep = omega (arith, no_levels i n)
sides_few (suc g) zero i n inside deep =
    let none : n ≡ 0 = omega arith in
    let first : i ≡ 0 = omega arith in
    let empty : length (sides_within (suc g) i n) ≡ 0 = ap (λ m. length (sides_within (suc g) m n)) first ∙ ap (λ m. length (sides_within (suc g) 0 m)) none ∙ ap length (at_top (suc g)) in
    omega arith
sides_few (suc g) (suc h) i n inside deep =
    let twice = pow-succ' 2 h in
    let rest : length (sides_within g (i / 2) (n / 2)) ≤ h = sides_few g h (i / 2) (n / 2) (omega arith) (omega arith) in
    elim (cases_eq (i % 2) 1) [
      | inl odd ↦ let e : length (sides_within (suc g) i n) ≡ suc (length (sides_within g (i / 2) (n / 2))) = ap length (odd_step g i n odd) in omega arith
      | inr even ↦
          let even_i : i % 2 ≡ 0 = omega arith in
          elim (cases_lt i n) [
            | inl less ↦ let e : length (sides_within (suc g) i n) ≡ suc (length (sides_within g (i / 2) (n / 2))) = ap length (even_step g i n even_i less) in omega arith
            | inr most ↦ let e : length (sides_within (suc g) i n) ≡ length (sides_within g (i / 2) (n / 2)) = ap length (alone_step g i n even_i most) in omega arith
          ]
    ]

pub start_sides_few : (g h i n : ℕ) → i ≤ n → n < 2 ^ h → length (sides_from_start g i n) ≤ h
start_sides_few zero h i n inside deep = omega (arith, no_start_levels i n)
start_sides_few (suc g) h i n inside deep = elim (cases_eq (i % 2) 1) [
  | inr even ↦
      let even_i : i % 2 ≡ 0 = omega arith in
      let e : length (sides_from_start (suc g) i n) ≡ length (sides_within (suc g) i n) = ap length (even_start g i n even_i) in
      let few = sides_few (suc g) h i n inside deep in
      omega arith
  | inl odd ↦
      let e : length (sides_from_start (suc g) i n) ≡ length (sides_from_start g (i / 2) (n / 2)) = ap length (odd_start g i n odd) in
      let few : length (sides_from_start g (i / 2) (n / 2)) ≤ h = start_sides_few g h (i / 2) (n / 2) (omega arith) (half_below h n deep) in
      omega arith
]
  where
    half_below : (h n : ℕ) → n < 2 ^ h → n / 2 < 2 ^ h
    half_below h n deep = omega arith

pub dropped_length : (b : Bool) (ps : List (List ℕ)) → length (if b then drop 1 ps else ps) ≤ length ps
dropped_length true ps = omega (arith, length-drop 1 ps)
dropped_length false ps = omega arith

module _ (hash : List ℕ → List ℕ) where
  -- a sibling for each side
  climb_length : (ss : List Side) (ps : List (List ℕ)) (h r : List ℕ) → climb hash ss ps h ≡ Some r → length ps ≡ length ss
  unfolding climb
  climb_length [] [] h r e = refl
  climb_length [] (p ∷ ps) h r e = cc
  climb_length (s ∷ ss) [] h r e = cc
  climb_length (s ∷ ss) (p ∷ ps) h r e = ap (λ n. suc n) (climb_length ss ps (hash (step_input s h p)) r e)

  both_length : (ss : List Side) (ps : List (List ℕ)) (a b x y : List ℕ) → climb_both hash ss ps a b ≡ Some (x, y) → length ps ≡ length ss
  unfolding climb_both
  both_length [] [] a b x y e = refl
  both_length [] (p ∷ ps) a b x y e = cc
  both_length (s ∷ ss) [] a b x y e = cc
  both_length (Left ∷ ss) (p ∷ ps) a b x y e = ap (λ n. suc n) (both_length ss ps a (hash (node_input b p)) x y e)
  both_length (Right ∷ ss) (p ∷ ps) a b x y e = ap (λ n. suc n) (both_length ss ps (hash (node_input p a)) (hash (node_input p b)) x y e)

  pub from_length : (ss : List Side) (ps : List (List ℕ)) (x y : List ℕ) → climb_from hash ss ps ≡ Some (x, y) → length ps ≤ length ss + 1
  from_length ss [] x y e = omega arith
  from_length ss (p ∷ ps) x y e = let rest : length ps ≡ length ss = both_length ss ps p p x y e in omega arith

  -- an accepted path has at most 64 hashes
  pub path_few : (leaf : List ℕ) (index size : ℕ) (path : List (List ℕ)) (root : List ℕ) → size ≤ 2 ^ 64 → Includes hash leaf index size path root → length path ≤ 64
  path_few leaf index size path root few includes =
      let inside = includes.in_tree in
      let same : length path ≡ length (sides index size) = climb_length (sides index size) path (hash (leaf_input leaf)) root includes.reaches in
      let most : length (sides index size) ≤ 64 = sides_few 64 64 index (size - 1) (omega arith) (omega arith) in
      omega arith
