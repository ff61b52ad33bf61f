-- The sides on the way up from a whole subtree, by the parts of a tree.
use Rattle.std.proofs.Common.{◌≡◌, ℕ, zero, suc, ◌+◌, ◌-◌, ◌/◌, ◌%◌, ◌^◌, ◌<◌, ◌≤◌, eqb, true, false, List, [], ◌∷◌, ◌++◌, inl, inr, refl, sym, ◌∙◌, ap, arith}
use Rattle.std.proofs.Math.Nat.{pow-succ', pow-le-pow_right}
use Rattle.std.proofs.lemmas.Bool.{cases_eq, cases_lt}
use Rattle.std.proofs.lemmas.Nat.{pow_pos}
use Rattle.std.proofs.lemmas.Bool.Decides.{nat_tests}
use Rattle.warg_merkle.specs.Trees.{Side, Left, Right, sides_within}
use Rattle.warg_merkle.specs.Extensions.{start_index, sides_from_start}
use Rattle.warg_merkle.proofs.Levels.{odd_step, even_step, alone_step, at_top, in_left, in_right}

pub odd_start : (g i n : ℕ) → i % 2 ≡ 1 → sides_from_start (suc g) i n ≡ sides_from_start g (i / 2) (n / 2)
unfolding sides_from_start
odd_start g i n odd = let test : eqb (i % 2) 1 ≡ true = grind (arith, nat_tests) in rw test refl

pub even_start : (g i n : ℕ) → i % 2 ≡ 0 → sides_from_start (suc g) i n ≡ sides_within (suc g) i n
unfolding sides_from_start
even_start g i n even = let test : eqb (i % 2) 1 ≡ false = grind (arith, nat_tests) in rw test refl

-- the whole tree
pub start_at_top : (g j n m : ℕ) → n ≡ 2 ^ j - 1 → m ≡ 2 ^ j - 1 → sides_from_start g n m ≡ []
unfolding sides_from_start
start_at_top zero j n m is is_m = refl
start_at_top (suc g) zero n m is is_m =
    let none : n ≡ 0 = omega arith in
    let none_m : m ≡ 0 = omega arith in
    even_start g n m (omega arith) ∙ ap (λ a. sides_within (suc g) a m) none ∙ ap (sides_within (suc g) 0) none_m ∙ at_top (suc g)
start_at_top (suc g) (suc j) n m is is_m =
    let twice = pow-succ' 2 j in
    let pos = pow_pos j in
    odd_start g n m (omega arith) ∙ start_at_top g j (n / 2) (m / 2) (omega arith) (omega arith)

pub start_in_left : (g j i n : ℕ) → j < g → i < 2 ^ j → 2 ^ j ≤ n → n < 2 ^ suc j → sides_from_start g i n ≡ sides_from_start g i (2 ^ j - 1) ++ Left ∷ []
start_in_left zero j i n deep hi low high = absurd (omega arith)
start_in_left (suc g) zero i n deep hi low high =
    let e : i % 2 ≡ 0 = omega arith in
    even_start g i n e ∙ in_left (suc g) zero i n deep hi low high ∙ ap (λ ss. ss ++ Left ∷ []) (sym (even_start g i (2 ^ 0 - 1) e))
start_in_left (suc g) (suc j) i n deep hi low high =
    let twice = pow-succ' 2 j in
    let again = pow-succ' 2 (suc j) in
    elim (cases_eq (i % 2) 1) [
      | inr even ↦
          let e : i % 2 ≡ 0 = omega arith in
          even_start g i n e ∙ in_left (suc g) (suc j) i n deep hi low high ∙ ap (λ ss. ss ++ Left ∷ []) (sym (even_start g i (2 ^ suc j - 1) e))
      | inl odd ↦
          let half : (2 ^ suc j - 1) / 2 ≡ 2 ^ j - 1 = omega arith in
          odd_start g i n odd ∙ start_in_left g j (i / 2) (n / 2) (omega arith) (omega arith) (omega arith) (omega arith) ∙ ap (λ m. sides_from_start g (i / 2) m ++ Left ∷ []) (sym half) ∙ ap (λ ss. ss ++ Left ∷ []) (sym (odd_start g i (2 ^ suc j - 1) odd))
    ]

pub start_in_right : (g j i n k m : ℕ) → j < g → i ≡ 2 ^ j + k → n ≡ 2 ^ j + m → k < m → m < 2 ^ j → sides_from_start g i n ≡ sides_from_start g k m ++ Right ∷ []
start_in_right zero j i n k m deep ei en low high = absurd (omega arith)
start_in_right (suc g) zero i n k m deep ei en low high = absurd (omega arith)
start_in_right (suc g) (suc j) i n k m deep ei en low high =
    let twice = pow-succ' 2 j in
    elim (cases_eq (i % 2) 1) [
      | inr even ↦
          let e : i % 2 ≡ 0 = omega arith in
          let e_k : k % 2 ≡ 0 = omega arith in
          even_start g i n e ∙ in_right (suc g) (suc j) i n k m deep ei en (omega arith) high ∙ ap (λ ss. ss ++ Right ∷ []) (sym (even_start g k m e_k))
      | inl odd ↦
          let odd_k : k % 2 ≡ 1 = omega arith in
          odd_start g i n odd ∙ start_in_right g j (i / 2) (n / 2) (k / 2) (m / 2) (omega arith) (omega arith) (omega arith) (omega arith) (omega arith) ∙ ap (λ ss. ss ++ Right ∷ []) (sym (odd_start g k m odd_k))
    ]

-- more levels than the last leaf needs give the same sides
pub enough_levels : (g h i n : ℕ) → i ≤ n → n < 2 ^ g → n < 2 ^ h → sides_within g i n ≡ sides_within h i n
enough_levels zero h i n inside hg hh =
    let none : n ≡ 0 = omega arith in
    let none_i : i ≡ 0 = omega arith in
    ap (λ a. sides_within zero a n) none_i ∙ ap (sides_within zero 0) none ∙ at_top zero ∙ sym (ap (λ a. sides_within h a n) none_i ∙ ap (sides_within h 0) none ∙ at_top h)
enough_levels (suc g) zero i n inside hg hh =
    let none : n ≡ 0 = omega arith in
    let none_i : i ≡ 0 = omega arith in
    ap (λ a. sides_within (suc g) a n) none_i ∙ ap (sides_within (suc g) 0) none ∙ at_top (suc g) ∙ sym (ap (λ a. sides_within zero a n) none_i ∙ ap (sides_within zero 0) none ∙ at_top zero)
enough_levels (suc g) (suc h) i n inside hg hh =
    let twice = pow-succ' 2 g in
    let again = pow-succ' 2 h in
    let rest : sides_within g (i / 2) (n / 2) ≡ sides_within h (i / 2) (n / 2) = enough_levels g h (i / 2) (n / 2) (omega arith) (omega arith) (omega arith) in
    elim (cases_eq (i % 2) 1) [
      | inl odd ↦ odd_step g i n odd ∙ ap (λ ss. Right ∷ ss) rest ∙ sym (odd_step h i n odd)
      | inr even ↦
          let e : i % 2 ≡ 0 = omega arith in
          elim (cases_lt i n) [
            | inl less ↦ even_step g i n e less ∙ ap (λ ss. Left ∷ ss) rest ∙ sym (even_step h i n e less)
            | inr most ↦ alone_step g i n e most ∙ rest ∙ sym (alone_step h i n e most)
          ]
    ]

pub odd_index : (g i : ℕ) → i % 2 ≡ 1 → start_index (suc g) i ≡ start_index g (i / 2)
unfolding start_index
odd_index g i odd = let test : eqb (i % 2) 1 ≡ true = grind (arith, nat_tests) in rw test refl

pub even_index : (g i : ℕ) → i % 2 ≡ 0 → start_index (suc g) i ≡ i
unfolding start_index
even_index g i even = let test : eqb (i % 2) 1 ≡ false = grind (arith, nat_tests) in rw test refl

pub index_zero : (i : ℕ) → i ≡ start_index zero i
unfolding start_index
index_zero i = refl

pub none_from : (i n : ℕ) → sides_within zero i n ≡ sides_from_start zero i n
unfolding sides_within sides_from_start
none_from i n = refl

deep_enough : (g n : ℕ) → g ≤ 64 → n < 2 ^ g → n < 2 ^ 64
deep_enough g n few deep = let above : 2 ^ g ≤ 2 ^ 64 = pow-le-pow_right (omega arith) few in omega arith

-- where the way up begins, through enough levels
pub record Starts (i n first : ℕ) (ss : List Side) : Type 0 where
  pub levels : ℕ
  pub few : levels ≤ 64
  pub deep : n < 2 ^ levels
  pub inside : i ≤ n
  pub place : start_index levels i ≡ first
  pub sides : sides_from_start levels i n ≡ ss

starts_more_at : (g i n first : ℕ) (ss : List Side) → i % 2 ≡ 1 → i ≤ n → g ≤ 64 → n < 2 ^ g → start_index g i ≡ first → sides_from_start g i n ≡ ss → Starts (i / 2) (n / 2) first ss
starts_more_at zero i n first ss odd inside few deep e f = absurd (omega arith)
starts_more_at (suc g) i n first ss odd inside few deep e f =
    let twice = pow-succ' 2 g in
    record { levels = g; few = omega arith; deep = omega arith; inside = omega arith; place = sym (odd_index g i odd) ∙ e; sides = sym (odd_start g i n odd) ∙ f }

pub starts_more : (i n first : ℕ) (ss : List Side) → i % 2 ≡ 1 → Starts i n first ss → Starts (i / 2) (n / 2) first ss
starts_more i n first ss odd b = starts_more_at b.levels i n first ss odd b.inside b.few b.deep b.place b.sides

place_at : (g i n first : ℕ) → i % 2 ≡ 0 → i ≤ n → n < 2 ^ g → start_index g i ≡ first → i ≡ first
place_at zero i n first even inside deep e = index_zero i ∙ e
place_at (suc g) i n first even inside deep e = sym (even_index g i even) ∙ e

pub starts_place : (i n first : ℕ) (ss : List Side) → i % 2 ≡ 0 → Starts i n first ss → i ≡ first
starts_place i n first ss even b = place_at b.levels i n first even b.inside b.deep b.place

sides_at : (g i n : ℕ) (ss : List Side) → i % 2 ≡ 0 → i ≤ n → g ≤ 64 → n < 2 ^ g → sides_from_start g i n ≡ ss → sides_within 64 i n ≡ ss
sides_at zero i n ss even inside few deep e = enough_levels 64 zero i n inside (deep_enough zero n few deep) deep ∙ none_from i n ∙ e
sides_at (suc g) i n ss even inside few deep e = enough_levels 64 (suc g) i n inside (deep_enough (suc g) n few deep) deep ∙ sym (even_start g i n even) ∙ e

pub starts_sides : (i n first : ℕ) (ss : List Side) → i % 2 ≡ 0 → Starts i n first ss → sides_within 64 i n ≡ ss
starts_sides i n first ss even b = sides_at b.levels i n ss even b.inside b.few b.deep b.sides
