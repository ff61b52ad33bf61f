-- Two ways up to one root are one, or what they hash collides.
use Rattle.std.proofs.Common.{◌≡◌, ◌≢◌, ◌⊎◌, ℕ, suc, List, [], ◌∷◌, ◌++◌, length, take, drop, Some, inl, inr, refl, sym, ◌∙◌, ap, arith}
use Rattle.std.specs.List.{All}
use Rattle.std.specs.Str.{bytes_eq}
use Rattle.std.proofs.lemmas.Bool.{cases_Bool}
use Rattle.std.proofs.lemmas.Bool.Decides.{not_from_Decides}
use Rattle.std.proofs.lemmas.Slice.Eq.{bytes_eq-Decides}
use Rattle.std.proofs.lemmas.List.{take_at, drop_at}
use Rattle.warg_merkle.specs.Trees.{Side, Left, Right, step_input, leaf_input, climb, climb_inputs, HaveCollision}

pub same_or_not : (xs ys : List ℕ) → (xs ≡ ys) ⊎ (xs ≢ ys)
same_or_not xs ys = elim (cases_Bool (bytes_eq xs ys)) [
  | inl is ↦ inl ((bytes_eq-Decides xs ys).0 is)
  | inr is_not ↦ inr (not_from_Decides (bytes_eq xs ys) (bytes_eq-Decides xs ys) is_not)
]

split_same : (a b p q : List ℕ) → length a ≡ 32 → length b ≡ 32 → a ++ p ≡ b ++ q → (a ≡ b) × (p ≡ q)
split_same a b p q la lb e = (sym (take_at a p 32 la) ∙ ap (take 32) e ∙ take_at b q 32 lb, sym (drop_at a p 32 la) ∙ ap (drop 32) e ∙ drop_at b q 32 lb)

pub all_rest : (p : List ℕ) (ps : List (List ℕ)) → All (λ x. length x ≡ 32) (p ∷ ps) → All (λ x. length x ≡ 32) ps
all_rest p ps h = λ k d below. h (suc k) d (omega arith)

-- equal inputs of a node are of equal hashes
step_same : (s : Side) (a b p q : List ℕ) → length a ≡ 32 → length b ≡ 32 → length p ≡ 32 → length q ≡ 32 → step_input s a p ≡ step_input s b q → (a ≡ b) × (p ≡ q)
step_same Left a b p q la lb lp lq e = split_same a b p q la lb (ap (drop 1) e)
step_same Right a b p q la lb lp lq e = let both = split_same p q a b lp lq (ap (drop 1) e) in (both.1, both.0)

module _ (hash : List ℕ → List ℕ) (long : (m : List ℕ) → length (hash m) ≡ 32) where
  -- a collision behind the first strings
  pub later : (x y : List ℕ) (xs ys : List (List ℕ)) → HaveCollision hash xs ys → HaveCollision hash (x ∷ xs) (y ∷ ys)
  later x y xs ys (i, h) = (suc i, record { in_left = let below = h.in_left in omega arith; in_right = let below = h.in_right in omega arith; differ = h.differ; same_hash = h.same_hash })

  -- the first strings collide
  pub at_once : (x y : List ℕ) (xs ys : List (List ℕ)) → x ≢ y → hash x ≡ hash y → HaveCollision hash (x ∷ xs) (y ∷ ys)
  at_once x y xs ys differ same = (0, record { in_left = omega arith; in_right = omega arith; differ = differ; same_hash = same })

  -- two ways up to one root
  pub one_way : (ss : List Side) (ps qs : List (List ℕ)) (a b r : List ℕ) → All (λ p. length p ≡ 32) ps → All (λ p. length p ≡ 32) qs → length a ≡ 32 → length b ≡ 32 → climb hash ss ps a ≡ Some r → climb hash ss qs b ≡ Some r → ((a ≡ b) × (ps ≡ qs)) ⊎ HaveCollision hash (climb_inputs hash ss ps a) (climb_inputs hash ss qs b)
  unfolding climb climb_inputs
  one_way [] [] [] a b r hp hq la lb ea eb = inl (cc, refl)
  one_way [] [] (q ∷ qs) a b r hp hq la lb ea eb = cc
  one_way [] (p ∷ ps) qs a b r hp hq la lb ea eb = cc
  one_way (s ∷ ss) [] qs a b r hp hq la lb ea eb = cc
  one_way (s ∷ ss) (p ∷ ps) [] a b r hp hq la lb ea eb = cc
  one_way (s ∷ ss) (p ∷ ps) (q ∷ qs) a b r hp hq la lb ea eb =
      elim (one_way ss ps qs (hash (step_input s a p)) (hash (step_input s b q)) r (all_rest p ps hp) (all_rest q qs hq) (long _) (long _) ea eb) [
        | inr found ↦ inr (later (step_input s a p) (step_input s b q) _ _ found)
        | inl (same, rest) ↦ elim (same_or_not (step_input s a p) (step_input s b q)) [
          | inr differ ↦ inr (at_once (step_input s a p) (step_input s b q) _ _ differ same)
          | inl equal ↦ let both = step_same s a b p q la lb (hp 0 p (omega arith)) (hq 0 q (omega arith)) equal in inl (both.0, cc)
        ]
      ]

  -- two leaves on ways up to one root
  pub one_leaf : (ss : List Side) (ps qs : List (List ℕ)) (d e r : List ℕ) → All (λ p. length p ≡ 32) ps → All (λ p. length p ≡ 32) qs → climb hash ss ps (hash (leaf_input d)) ≡ Some r → climb hash ss qs (hash (leaf_input e)) ≡ Some r → ((d ≡ e) × (ps ≡ qs)) ⊎ HaveCollision hash (leaf_input d ∷ climb_inputs hash ss ps (hash (leaf_input d))) (leaf_input e ∷ climb_inputs hash ss qs (hash (leaf_input e)))
  one_leaf ss ps qs d e r hp hq ed ee =
      elim (one_way ss ps qs (hash (leaf_input d)) (hash (leaf_input e)) r hp hq (long _) (long _) ed ee) [
        | inr found ↦ inr (later (leaf_input d) (leaf_input e) _ _ found)
        | inl (same, rest) ↦ elim (same_or_not (leaf_input d) (leaf_input e)) [
          | inr differ ↦ inr (at_once (leaf_input d) (leaf_input e) _ _ differ same)
          | inl equal ↦ inl (ap (drop 1) equal, rest)
        ]
      ]
