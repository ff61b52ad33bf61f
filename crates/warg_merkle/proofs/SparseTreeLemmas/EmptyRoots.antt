-- The roots of empty subtrees in a row.
use Rattle.std.proofs.Common.{◌≡◌, ℕ, zero, suc, ◌<◌, ◌≤◌, List, [], ◌∷◌, ◌++◌, length, get_or, take, drop, inl, inr, refl, sym, ◌∙◌, ap, arith}
use Rattle.std.proofs.lemmas.Bool.{cases_lt}
use Rattle.std.proofs.lemmas.List.{length-append, length-drop, take-append-le, drop-append-le, nil_from_length, get_or_append_left, get_or_push}
use Rattle.std.proofs.Math.Seq.{take-length}
use Rattle.warg_merkle.specs.SparseMap.Maps.{empty_root}
use Rattle.warg_merkle.specs.SparseTree.Nodes.{empty_roots}

module _ (hash : List ℕ → List ℕ) where
  pub length-empty_roots : (n : ℕ) → length (empty_roots hash n) ≡ n
  unfolding empty_roots
  length-empty_roots zero = refl
  length-empty_roots (suc n) = omega (arith, length-append (empty_roots hash n) (empty_root hash n ∷ []), length-empty_roots n)

  pub no_roots : empty_roots hash 0 ≡ []
  unfolding empty_roots
  no_roots = refl

  pub roots_more : (n k : ℕ) → k ≡ suc n → empty_roots hash k ≡ empty_roots hash n ++ empty_root hash n ∷ []
  unfolding empty_roots
  roots_more n k is = rw is refl

  pub take-empty_roots : (n m : ℕ) → n ≤ m → take n (empty_roots hash m) ≡ empty_roots hash n
  unfolding empty_roots
  take-empty_roots n zero below = let is : n ≡ 0 = omega arith in rw is refl
  take-empty_roots n (suc m) below = elim (cases_lt n (suc m)) [
    | inl less ↦ take-append-le n (empty_roots hash m) (empty_root hash m ∷ []) (omega (arith, length-empty_roots m)) ∙ take-empty_roots n m (omega arith)
    | inr most ↦
        let is : n ≡ suc m = omega arith in
        let long : length (empty_roots hash (suc m)) ≡ n = omega (arith, length-empty_roots (suc m)) in
        ap (λ k. take k (empty_roots hash (suc m))) (sym long) ∙ take-length (empty_roots hash (suc m)) ∙ ap (empty_roots hash) (sym is)
  ]

  pub get_or-empty_roots : (m i : ℕ) → i < m → get_or (empty_roots hash m) i [] ≡ empty_root hash i
  unfolding empty_roots
  get_or-empty_roots zero i below = absurd (omega arith)
  get_or-empty_roots (suc m) i below = elim (cases_lt i m) [
    | inl less ↦ get_or_append_left (empty_roots hash m) (empty_root hash m ∷ []) [] i (omega (arith, length-empty_roots m)) ∙ get_or-empty_roots m i less
    | inr most ↦ let is : i ≡ m = omega arith in get_or_push (empty_roots hash m) (empty_root hash m) [] i (omega (arith, length-empty_roots m)) ∙ ap (empty_root hash) (sym is)
  ]

  -- a read of the table
  pub empty_at : (empties : List (List ℕ)) (i j : ℕ) → empties ≡ empty_roots hash 257 → i ≡ j → j < 257 → get_or empties i [] ≡ empty_root hash j
  empty_at empties i j is same below = ap (λ k. get_or empties k []) same ∙ ap (λ os. get_or os j []) is ∙ get_or-empty_roots 257 j below

  -- a piece of the table
  pub row_none : (n k : ℕ) → k ≡ n → drop n (empty_roots hash k) ≡ []
  row_none n k is = nil_from_length (drop n (empty_roots hash k)) (omega (arith, length-drop n (empty_roots hash k), length-empty_roots k))

  pub row_more : (n m k : ℕ) → n ≤ m → k ≡ suc m → drop n (empty_roots hash k) ≡ drop n (empty_roots hash m) ++ empty_root hash m ∷ []
  row_more n m k low is = ap (drop n) (roots_more m k is) ∙ drop-append-le n (empty_roots hash m) (empty_root hash m ∷ []) (omega (arith, length-empty_roots m))
