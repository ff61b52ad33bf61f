-- A tree's own consistency paths are accepted.
use Rattle.std.proofs.Common.{◌≡◌, ◌↔◌, ℕ, zero, suc, ◌+◌, ◌-◌, ◌/◌, ◌%◌, ◌^◌, ◌<◌, ◌≤◌, ◌==◌, if◌then◌else◌, List, [], ◌∷◌, length, take, drop, Some, inl, inr, refl, sym, ◌∙◌, ap, arith}
use Rattle.std.specs.Int.{IsPowerOfTwo}
use Rattle.std.proofs.Math.Nat.{pow-succ'}
use Rattle.std.proofs.lemmas.Bool.{cases_eq, cases_lt, cases_Bool}
use Rattle.std.proofs.lemmas.Bool.Decides.{Decides-eqb}
use Rattle.warg_merkle.specs.Trees.{Left, sides_within, node_input, tree_hash}
use Rattle.warg_merkle.specs.Extensions.{start_index, sides_from_start, extension_sides, climb_both, climb_from, with_start, Extends, extension, consistency_path}
use Rattle.warg_merkle.proofs.Levels.{even_step, alone_step}
use Rattle.warg_merkle.proofs.JoinLevels.{odd_start, even_start, odd_index, even_index, index_zero}
use Rattle.warg_merkle.proofs.Extending.{same_pair, reaches_both}
use Rattle.warg_merkle.proofs.Lengths.{start_sides_few, from_length, dropped_length}

module _ (hash : List ℕ → List ℕ) where
  old_at_top : (ps : List (List ℕ)) (a b x y : List ℕ) → climb_both hash [] ps a b ≡ Some (x, y) → a ≡ x
  unfolding climb_both
  old_at_top [] a b x y e = (same_pair a b x y e).0
  old_at_top (p ∷ ps) a b x y e = cc

  none_at_zero : (n : ℕ) → sides_within zero 0 n ≡ []
  unfolding sides_within
  none_at_zero n = refl

  none_from_start : (i n : ℕ) → sides_from_start zero i n ≡ []
  unfolding sides_from_start
  none_from_start i n = refl

  after_left : (g n : ℕ) (ps : List (List ℕ)) (a b x y : List ℕ) → ((qs : List (List ℕ)) (c d v w : List ℕ) → climb_both hash (sides_within g 0 (n / 2)) qs c d ≡ Some (v, w) → c ≡ v) → climb_both hash (Left ∷ sides_within g 0 (n / 2)) ps a b ≡ Some (x, y) → a ≡ x
  unfolding climb_both
  after_left g n [] a b x y before e = cc
  after_left g n (p ∷ ps) a b x y before e = before ps a (hash (node_input b p)) x y e

  -- on a way up from the first place the old root stays
  old_stays : (g n : ℕ) (ps : List (List ℕ)) (a b x y : List ℕ) → climb_both hash (sides_within g 0 n) ps a b ≡ Some (x, y) → a ≡ x
  old_stays zero n ps a b x y e = old_at_top ps a b x y (sym (ap (λ ss. climb_both hash ss ps a b) (none_at_zero n)) ∙ e)
  old_stays (suc g) n ps a b x y e = elim (cases_lt 0 n) [
    | inl less ↦ after_left g n ps a b x y (old_stays g (n / 2)) (sym (ap (λ ss. climb_both hash ss ps a b) (even_step g 0 n (omega arith) less)) ∙ e)
    | inr most ↦ old_stays g (n / 2) ps a b x y (sym (ap (λ ss. climb_both hash ss ps a b) (alone_step g 0 n (omega arith) most)) ∙ e)
  ]

  old_is_start : (g i n : ℕ) (ps : List (List ℕ)) (a b x y : List ℕ) → start_index g i ≡ 0 → climb_both hash (sides_from_start g i n) ps a b ≡ Some (x, y) → a ≡ x
  old_is_start zero i n ps a b x y is e = old_at_top ps a b x y (sym (ap (λ ss. climb_both hash ss ps a b) (none_from_start i n)) ∙ e)
  old_is_start (suc g) i n ps a b x y is e = elim (cases_eq (i % 2) 1) [
    | inl odd ↦ old_is_start g (i / 2) (n / 2) ps a b x y (sym (odd_index g i odd) ∙ is) (sym (ap (λ ss. climb_both hash ss ps a b) (odd_start g i n odd)) ∙ e)
    | inr even ↦
        let even_i : i % 2 ≡ 0 = omega arith in
        let none : i ≡ 0 = sym (even_index g i even_i) ∙ is in
        old_stays (suc g) n ps a b x y (sym (ap (λ ss. climb_both hash ss ps a b) (even_start g i n even_i ∙ ap (λ m. sides_within (suc g) m n) none)) ∙ e)
  ]

  starts_with_old : (m n : ℕ) (ps : List (List ℕ)) (x y : List ℕ) → start_index 64 (m - 1) ≡ 0 → climb_from hash (extension_sides m n) ps ≡ Some (x, y) → x ∷ drop 1 ps ≡ ps
  starts_with_old m n [] x y is e = cc
  starts_with_old m n (p ∷ ps) x y is e = let same : p ≡ x = old_is_start 64 (m - 1) (n - 1) ps p p x y is e in ap (λ r. r ∷ ps) (sym same)

  given_back : (m n : ℕ) (ps : List (List ℕ)) (x y : List ℕ) → climb_from hash (extension_sides m n) ps ≡ Some (x, y) → with_start hash m x (if start_index 64 (m - 1) == 0 then drop 1 ps else ps) ≡ ps
  given_back m n ps x y e = elim (cases_Bool (start_index 64 (m - 1) == 0)) [
    | inl is ↦ rw is (starts_with_old m n ps x y ((Decides-eqb (start_index 64 (m - 1)) 0).0 is) e)
    | inr is_not ↦ rw is_not refl
  ]

  -- the own path of a tree leads to both roots
  pub own_path_extends : (first : ℕ) (ds : List (List ℕ)) → 0 < first → first < length ds → length ds ≤ 2 ^ 63 → Extends hash first (length ds) (consistency_path hash first ds) (tree_hash hash (take first ds)) (tree_hash hash ds)
  unfolding extension
  own_path_extends first ds some more few =
      let own = reaches_both hash (length ds) 64 first ds some (inl more) (omega arith) (omega arith) in
      let back = given_back first (length ds) (extension hash first ds) (tree_hash hash (take first ds)) (tree_hash hash ds) own in
      let sides : length (extension_sides first (length ds)) ≤ 63 = start_sides_few 64 63 (first - 1) (length ds - 1) (omega arith) (omega arith) in
      let long : length (extension hash first ds) ≤ length (extension_sides first (length ds)) + 1 = from_length hash (extension_sides first (length ds)) (extension hash first ds) (tree_hash hash (take first ds)) (tree_hash hash ds) own in
      let part : length (consistency_path hash first ds) ≤ length (extension hash first ds) = dropped_length (start_index 64 (first - 1) == 0) (extension hash first ds) in
      record { some = some; more = more; short = omega arith; reaches = ap (λ ps. climb_from hash (extension_sides first (length ds)) ps) back ∙ own }

pub power_from_start : (g i : ℕ) → i < 2 ^ g → start_index g i ≡ 0 → IsPowerOfTwo (suc i)
power_from_start zero i below is = (0, omega arith)
power_from_start (suc g) i below is =
    let twice = pow-succ' 2 g in
    elim (cases_eq (i % 2) 1) [
      | inl odd ↦
          let half = power_from_start g (i / 2) (omega arith) (sym (odd_index g i odd) ∙ is) in
          let again = pow-succ' 2 half.0 in
          let half_is = half.1 in
          (suc half.0, omega arith)
      | inr even ↦ let none : i ≡ 0 = sym (even_index g i (omega arith)) ∙ is in (0, omega arith)
    ]

pub start_from_power : (g j i : ℕ) → i < 2 ^ g → suc i ≡ 2 ^ j → start_index g i ≡ 0
start_from_power zero j i below is = let none : i ≡ 0 = omega arith in sym (index_zero i) ∙ none
start_from_power (suc g) zero i below is = let none : i ≡ 0 = omega arith in even_index g i (omega arith) ∙ none
start_from_power (suc g) (suc j) i below is =
    let twice = pow-succ' 2 g in
    let again = pow-succ' 2 j in
    let odd : i % 2 ≡ 1 = omega arith in
    odd_index g i odd ∙ start_from_power g j (i / 2) (omega arith) (omega arith)

-- the first leaves are a whole subtree where their number is a power of two
pub whole_at_powers : (m : ℕ) → 0 < m → m ≤ 2 ^ 64 → (start_index 64 (m - 1) ≡ 0) ↔ IsPowerOfTwo m
whole_at_powers m some few =
    let one : suc (m - 1) ≡ m = omega arith in
    (λ is. let power = power_from_start 64 (m - 1) (omega arith) is in (power.0, sym one ∙ power.1), λ power. start_from_power 64 power.0 (m - 1) (omega arith) (one ∙ power.1))
