-- The rest of a way up to both roots.
use Rattle.std.proofs.Common.{◌≡◌, ℕ, zero, suc, ◌/◌, ◌%◌, ◌^◌, ◌<◌, ◌≤◌, List, [], ◌∷◌, length, ◌⊎◌, inl, inr, Option, Some, None, sym, ◌∙◌, ap, arith}
use Rattle.std.proofs.Math.Nat.{pow-succ'}
use Rattle.std.proofs.lemmas.Bool.{cases_eq}
use Rattle.warg_merkle.specs.Trees.{Left, Right, node_input, sides_within}
use Rattle.warg_merkle.specs.Extensions.{climb_both}
use Rattle.warg_merkle.proofs.Levels.{odd_step, even_step, alone_step, at_top}

-- the way up from the leaf i, where the last leaf is n, through enough levels, ends at r
pub record Ends (hash : List ℕ → List ℕ) (i n : ℕ) (ps : List (List ℕ)) (old new : List ℕ) (r : Option (List ℕ × List ℕ)) : Type 0 where
  pub levels : ℕ
  pub deep : n < 2 ^ levels
  pub inside : i ≤ n
  pub ends : climb_both hash (sides_within levels i n) ps old new ≡ r

module _ (hash : List ℕ → List ℕ) where
  to_left_at : (g i n : ℕ) (p : List ℕ) (ps qs : List (List ℕ)) (old new : List ℕ) (r : Option (List ℕ × List ℕ)) → 0 < n → qs ≡ p ∷ ps → i % 2 ≡ 0 → i < n → n < 2 ^ g → climb_both hash (sides_within g i n) qs old new ≡ r → Ends hash (i / 2) (n / 2) ps old (hash (node_input new p)) r
  unfolding climb_both
  to_left_at zero i n p ps qs old new r pos is even less deep e = absurd (omega arith)
  to_left_at (suc g) i n p ps qs old new r pos is even less deep e =
      let twice = pow-succ' 2 g in
      record { levels = g; deep = omega arith; inside = omega arith; ends = sym (ap (λ ss. climb_both hash ss qs old new) (even_step g i n even less) ∙ ap (λ rest. climb_both hash (Left ∷ sides_within g (i / 2) (n / 2)) rest old new) is) ∙ e }

  to_right_at : (g i n : ℕ) (p : List ℕ) (ps qs : List (List ℕ)) (old new : List ℕ) (r : Option (List ℕ × List ℕ)) → 0 < n → qs ≡ p ∷ ps → i % 2 ≡ 1 → i ≤ n → n < 2 ^ g → climb_both hash (sides_within g i n) qs old new ≡ r → Ends hash (i / 2) (n / 2) ps (hash (node_input p old)) (hash (node_input p new)) r
  unfolding climb_both
  to_right_at zero i n p ps qs old new r pos is odd most deep e = absurd (omega arith)
  to_right_at (suc g) i n p ps qs old new r pos is odd most deep e =
      let twice = pow-succ' 2 g in
      record { levels = g; deep = omega arith; inside = omega arith; ends = sym (ap (λ ss. climb_both hash ss qs old new) (odd_step g i n odd) ∙ ap (λ rest. climb_both hash (Right ∷ sides_within g (i / 2) (n / 2)) rest old new) is) ∙ e }

  to_itself_at : (g i n : ℕ) (qs : List (List ℕ)) (old new : List ℕ) (r : Option (List ℕ × List ℕ)) → 0 < n → i % 2 ≡ 0 → n ≤ i → i ≤ n → n < 2 ^ g → climb_both hash (sides_within g i n) qs old new ≡ r → Ends hash (i / 2) (n / 2) qs old new r
  to_itself_at zero i n qs old new r pos even most inside deep e = absurd (omega arith)
  to_itself_at (suc g) i n qs old new r pos even most inside deep e =
      let twice = pow-succ' 2 g in
      record { levels = g; deep = omega arith; inside = omega arith; ends = sym (ap (λ ss. climb_both hash ss qs old new) (alone_step g i n even most)) ∙ e }

  short_at : (g i n : ℕ) (old new : List ℕ) (r : Option (List ℕ × List ℕ)) → 0 < n → (i % 2 ≡ 1) ⊎ (i < n) → n < 2 ^ g → climb_both hash (sides_within g i n) [] old new ≡ r → None ≡ r
  unfolding climb_both
  short_at zero i n old new r pos moves deep e = absurd (omega arith)
  short_at (suc g) i n old new r pos moves deep e = elim (cases_eq (i % 2) 1) [
    | inl odd ↦ sym (ap (λ ss. climb_both hash ss [] old new) (odd_step g i n odd)) ∙ e
    | inr even ↦ elim moves [
      | inl odd ↦ absurd (even odd)
      | inr less ↦ sym (ap (λ ss. climb_both hash ss [] old new) (even_step g i n (omega arith) less)) ∙ e
    ]
  ]

  -- a step of the way up
  pub to_left : (i n : ℕ) (p : List ℕ) (ps qs : List (List ℕ)) (old new : List ℕ) (r : Option (List ℕ × List ℕ)) → 0 < n → qs ≡ p ∷ ps → i % 2 ≡ 0 → i < n → Ends hash i n qs old new r → Ends hash (i / 2) (n / 2) ps old (hash (node_input new p)) r
  to_left i n p ps qs old new r pos is even less b = to_left_at b.levels i n p ps qs old new r pos is even less b.deep b.ends

  pub to_right : (i n : ℕ) (p : List ℕ) (ps qs : List (List ℕ)) (old new : List ℕ) (r : Option (List ℕ × List ℕ)) → 0 < n → qs ≡ p ∷ ps → i % 2 ≡ 1 → Ends hash i n qs old new r → Ends hash (i / 2) (n / 2) ps (hash (node_input p old)) (hash (node_input p new)) r
  to_right i n p ps qs old new r pos is odd b = to_right_at b.levels i n p ps qs old new r pos is odd b.inside b.deep b.ends

  pub to_itself : (i n : ℕ) (qs : List (List ℕ)) (old new : List ℕ) (r : Option (List ℕ × List ℕ)) → 0 < n → i % 2 ≡ 0 → n ≤ i → Ends hash i n qs old new r → Ends hash (i / 2) (n / 2) qs old new r
  to_itself i n qs old new r pos even most b = to_itself_at b.levels i n qs old new r pos even most b.inside b.deep b.ends

  -- a step and no sibling
  pub short : (i n : ℕ) (qs : List (List ℕ)) (old new : List ℕ) (r : Option (List ℕ × List ℕ)) → 0 < n → length qs ≡ 0 → (i % 2 ≡ 1) ⊎ (i < n) → Ends hash i n qs old new r → None ≡ r
  short i n [] old new r pos none moves b = short_at b.levels i n old new r pos moves b.deep b.ends
  short i n (q ∷ qs) old new r pos none moves b = absurd (omega arith)

  -- the top
  top : (i n : ℕ) (qs : List (List ℕ)) (old new : List ℕ) (r : Option (List ℕ × List ℕ)) → n ≡ 0 → Ends hash i n qs old new r → climb_both hash [] qs old new ≡ r
  top i n qs old new r none b =
      let inside = b.inside in
      let first : i ≡ 0 = omega arith in
      sym (ap (λ m. climb_both hash (sides_within b.levels m n) qs old new) first ∙ ap (λ m. climb_both hash (sides_within b.levels 0 m) qs old new) none ∙ ap (λ ss. climb_both hash ss qs old new) (at_top b.levels)) ∙ b.ends

  pub whole : (i n : ℕ) (qs : List (List ℕ)) (old new : List ℕ) (r : Option (List ℕ × List ℕ)) → n ≡ 0 → length qs ≡ 0 → Ends hash i n qs old new r → Some (old, new) ≡ r
  unfolding climb_both
  whole i n [] old new r none all b = top i n [] old new r none b
  whole i n (q ∷ qs) old new r none all b = absurd (omega arith)

  pub long : (i n : ℕ) (qs : List (List ℕ)) (old new : List ℕ) (r : Option (List ℕ × List ℕ)) → n ≡ 0 → 0 < length qs → Ends hash i n qs old new r → None ≡ r
  unfolding climb_both
  long i n [] old new r none more b = absurd (omega arith)
  long i n (q ∷ qs) old new r none more b = top i n (q ∷ qs) old new r none b
