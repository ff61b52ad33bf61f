-- The rest of a way up.
use Rattle.std.proofs.Common.{◌≡◌, ℕ, zero, suc, ◌/◌, ◌%◌, ◌^◌, ◌<◌, ◌≤◌, List, [], ◌∷◌, length, ◌⊎◌, inl, inr, Option, Some, None, sym, ◌∙◌, ap, arith}
use Rattle.std.proofs.Math.Nat.{pow-succ'}
use Rattle.std.proofs.lemmas.Bool.{cases_eq}
use Rattle.warg_merkle.specs.Trees.{Left, Right, node_input, climb, sides_within}
use Rattle.warg_merkle.proofs.Levels.{odd_step, even_step, alone_step, at_top}

-- the way up from the leaf i, where the last leaf is n, through enough levels, ends at r
pub record Ends (hash : List ℕ → List ℕ) (i n : ℕ) (ps : List (List ℕ)) (h : List ℕ) (r : Option (List ℕ)) : Type 0 where
  pub levels : ℕ
  pub deep : n < 2 ^ levels
  pub inside : i ≤ n
  pub ends : climb hash (sides_within levels i n) ps h ≡ r

module _ (hash : List ℕ → List ℕ) where
  to_left_at : (g i n : ℕ) (p : List ℕ) (ps qs : List (List ℕ)) (h : List ℕ) (r : Option (List ℕ)) → 0 < n → qs ≡ p ∷ ps → i % 2 ≡ 0 → i < n → n < 2 ^ g → climb hash (sides_within g i n) qs h ≡ r → Ends hash (i / 2) (n / 2) ps (hash (node_input h p)) r
  unfolding climb
  to_left_at zero i n p ps qs h r pos is even less deep e = absurd (omega arith)
  to_left_at (suc g) i n p ps qs h r pos is even less deep e =
      let twice = pow-succ' 2 g in
      record { levels = g; deep = omega arith; inside = omega arith; ends = sym (ap (λ ss. climb hash ss qs h) (even_step g i n even less) ∙ ap (λ rest. climb hash (Left ∷ sides_within g (i / 2) (n / 2)) rest h) is) ∙ e }

  to_right_at : (g i n : ℕ) (p : List ℕ) (ps qs : List (List ℕ)) (h : List ℕ) (r : Option (List ℕ)) → 0 < n → qs ≡ p ∷ ps → i % 2 ≡ 1 → i ≤ n → n < 2 ^ g → climb hash (sides_within g i n) qs h ≡ r → Ends hash (i / 2) (n / 2) ps (hash (node_input p h)) r
  unfolding climb
  to_right_at zero i n p ps qs h r pos is odd most deep e = absurd (omega arith)
  to_right_at (suc g) i n p ps qs h r pos is odd most deep e =
      let twice = pow-succ' 2 g in
      record { levels = g; deep = omega arith; inside = omega arith; ends = sym (ap (λ ss. climb hash ss qs h) (odd_step g i n odd) ∙ ap (λ rest. climb hash (Right ∷ sides_within g (i / 2) (n / 2)) rest h) is) ∙ e }

  to_itself_at : (g i n : ℕ) (qs : List (List ℕ)) (h : List ℕ) (r : Option (List ℕ)) → 0 < n → i % 2 ≡ 0 → n ≤ i → i ≤ n → n < 2 ^ g → climb hash (sides_within g i n) qs h ≡ r → Ends hash (i / 2) (n / 2) qs h r
  to_itself_at zero i n qs h r pos even most inside deep e = absurd (omega arith)
  to_itself_at (suc g) i n qs h r pos even most inside deep e =
      let twice = pow-succ' 2 g in
      record { levels = g; deep = omega arith; inside = omega arith; ends = sym (ap (λ ss. climb hash ss qs h) (alone_step g i n even most)) ∙ e }

  short_at : (g i n : ℕ) (h : List ℕ) (r : Option (List ℕ)) → 0 < n → (i % 2 ≡ 1) ⊎ (i < n) → n < 2 ^ g → climb hash (sides_within g i n) [] h ≡ r → None ≡ r
  unfolding climb
  short_at zero i n h r pos moves deep e = absurd (omega arith)
  short_at (suc g) i n h r pos moves deep e = elim (cases_eq (i % 2) 1) [
    | inl odd ↦ sym (ap (λ ss. climb hash ss [] h) (odd_step g i n odd)) ∙ e
    | inr even ↦ elim moves [
      | inl odd ↦ absurd (even odd)
      | inr less ↦ sym (ap (λ ss. climb hash ss [] h) (even_step g i n (omega arith) less)) ∙ e
    ]
  ]

  -- a step of the way up
  pub to_left : (i n : ℕ) (p : List ℕ) (ps qs : List (List ℕ)) (h : List ℕ) (r : Option (List ℕ)) → 0 < n → qs ≡ p ∷ ps → i % 2 ≡ 0 → i < n → Ends hash i n qs h r → Ends hash (i / 2) (n / 2) ps (hash (node_input h p)) r
  to_left i n p ps qs h r pos is even less b = to_left_at b.levels i n p ps qs h r pos is even less b.deep b.ends

  pub to_right : (i n : ℕ) (p : List ℕ) (ps qs : List (List ℕ)) (h : List ℕ) (r : Option (List ℕ)) → 0 < n → qs ≡ p ∷ ps → i % 2 ≡ 1 → Ends hash i n qs h r → Ends hash (i / 2) (n / 2) ps (hash (node_input p h)) r
  to_right i n p ps qs h r pos is odd b = to_right_at b.levels i n p ps qs h r pos is odd b.inside b.deep b.ends

  pub to_itself : (i n : ℕ) (qs : List (List ℕ)) (h : List ℕ) (r : Option (List ℕ)) → 0 < n → i % 2 ≡ 0 → n ≤ i → Ends hash i n qs h r → Ends hash (i / 2) (n / 2) qs h r
  to_itself i n qs h r pos even most b = to_itself_at b.levels i n qs h r pos even most b.inside b.deep b.ends

  -- a step and no sibling
  pub short : (i n : ℕ) (qs : List (List ℕ)) (h : List ℕ) (r : Option (List ℕ)) → 0 < n → length qs ≡ 0 → (i % 2 ≡ 1) ⊎ (i < n) → Ends hash i n qs h r → None ≡ r
  short i n [] h r pos none moves b = short_at b.levels i n h r pos moves b.deep b.ends
  short i n (q ∷ qs) h r pos none moves b = absurd (omega arith)

  -- the top
  top : (i n : ℕ) (qs : List (List ℕ)) (h : List ℕ) (r : Option (List ℕ)) → n ≡ 0 → Ends hash i n qs h r → climb hash [] qs h ≡ r
  top i n qs h r none b =
      let inside = b.inside in
      let first : i ≡ 0 = omega arith in
      sym (ap (λ m. climb hash (sides_within b.levels m n) qs h) first ∙ ap (λ m. climb hash (sides_within b.levels 0 m) qs h) none ∙ ap (λ ss. climb hash ss qs h) (at_top b.levels)) ∙ b.ends

  pub whole : (i n : ℕ) (qs : List (List ℕ)) (h : List ℕ) (r : Option (List ℕ)) → n ≡ 0 → length qs ≡ 0 → Ends hash i n qs h r → Some h ≡ r
  unfolding climb
  whole i n [] h r none all b = top i n [] h r none b
  whole i n (q ∷ qs) h r none all b = absurd (omega arith)

  pub long : (i n : ℕ) (qs : List (List ℕ)) (h : List ℕ) (r : Option (List ℕ)) → n ≡ 0 → 0 < length qs → Ends hash i n qs h r → None ≡ r
  unfolding climb
  long i n [] h r none more b = absurd (omega arith)
  long i n (q ∷ qs) h r none more b = top i n (q ∷ qs) h r none b
