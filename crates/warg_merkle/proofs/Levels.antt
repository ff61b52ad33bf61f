-- The sides on the way up, by the parts of a tree.
use Rattle.std.proofs.Common.{◌≡◌, ℕ, zero, suc, ◌+◌, ◌-◌, ◌/◌, ◌%◌, ◌^◌, ◌<◌, ◌≤◌, eqb, ltb, true, false, [], ◌∷◌, ◌++◌, inl, inr, refl, sym, ◌∙◌, ap, arith}
use Rattle.std.proofs.Math.Nat.{pow-succ'}
use Rattle.std.proofs.lemmas.Bool.{cases_lt, cases_eq}
use Rattle.std.proofs.lemmas.Bool.Decides.{nat_tests}
use Rattle.warg_merkle.specs.Trees.{Left, Right, sides_within}

pub odd_step : (g i n : ℕ) → i % 2 ≡ 1 → sides_within (suc g) i n ≡ Right ∷ sides_within g (i / 2) (n / 2)
unfolding sides_within
odd_step g i n odd = let test : eqb (i % 2) 1 ≡ true = grind (arith, nat_tests) in rw test refl

pub even_step : (g i n : ℕ) → i % 2 ≡ 0 → i < n → sides_within (suc g) i n ≡ Left ∷ sides_within g (i / 2) (n / 2)
unfolding sides_within
even_step g i n even less = let test : eqb (i % 2) 1 ≡ false = grind (arith, nat_tests) in let lower : ltb i n ≡ true = grind (arith, nat_tests) in rw (test, lower) refl

pub alone_step : (g i n : ℕ) → i % 2 ≡ 0 → n ≤ i → sides_within (suc g) i n ≡ sides_within g (i / 2) (n / 2)
unfolding sides_within
alone_step g i n even most = let test : eqb (i % 2) 1 ≡ false = grind (arith, nat_tests) in let lower : ltb i n ≡ false = grind (arith, nat_tests) in rw (test, lower) refl

pub at_top : (g : ℕ) → sides_within g 0 0 ≡ []
unfolding sides_within
at_top zero = refl
at_top (suc g) = at_top g

-- a leaf of the left part
pub in_left : (g j i n : ℕ) → j < g → i < 2 ^ j → 2 ^ j ≤ n → n < 2 ^ suc j → sides_within g i n ≡ sides_within g i (2 ^ j - 1) ++ Left ∷ []
in_left zero j i n deep hi low high = absurd (omega arith)
in_left (suc g) zero i n deep hi low high =
    let ei : i ≡ 0 = omega arith in
    let en : n ≡ 1 = omega arith in
    let first : sides_within (suc g) i n ≡ Left ∷ sides_within g (i / 2) (n / 2) = even_step g i n (omega arith) (omega arith) in
    let hi2 : i / 2 ≡ 0 = omega arith in
    let hn2 : n / 2 ≡ 0 = omega arith in
    let none : sides_within g (i / 2) (n / 2) ≡ [] = ap (λ a. sides_within g a (n / 2)) hi2 ∙ ap (sides_within g 0) hn2 ∙ at_top g in
    let other : sides_within (suc g) i (2 ^ 0 - 1) ≡ [] = ap (λ a. sides_within (suc g) a 0) ei ∙ at_top (suc g) in
    first ∙ ap (λ ss. Left ∷ ss) none ∙ ap (λ ss. ss ++ Left ∷ []) (sym other)
in_left (suc g) (suc j) i n deep hi low high =
    let twice = pow-succ' 2 j in
    let again = pow-succ' 2 (suc j) in
    let rest : sides_within g (i / 2) (n / 2) ≡ sides_within g (i / 2) (2 ^ j - 1) ++ Left ∷ [] = in_left g j (i / 2) (n / 2) (omega arith) (omega arith) (omega arith) (omega arith) in
    let half : (2 ^ suc j - 1) / 2 ≡ 2 ^ j - 1 = omega arith in
    let same : sides_within g (i / 2) ((2 ^ suc j - 1) / 2) ≡ sides_within g (i / 2) (2 ^ j - 1) = ap (sides_within g (i / 2)) half in
    elim (cases_eq (i % 2) 1) [
      | inl odd ↦ odd_step g i n odd ∙ ap (λ ss. Right ∷ ss) (rest ∙ ap (λ ss. ss ++ Left ∷ []) (sym same)) ∙ ap (λ ss. ss ++ Left ∷ []) (sym (odd_step g i (2 ^ suc j - 1) odd))
      | inr even ↦
          let e : i % 2 ≡ 0 = omega arith in
          even_step g i n e (omega arith) ∙ ap (λ ss. Left ∷ ss) (rest ∙ ap (λ ss. ss ++ Left ∷ []) (sym same)) ∙ ap (λ ss. ss ++ Left ∷ []) (sym (even_step g i (2 ^ suc j - 1) e (omega arith)))
    ]

-- a leaf of the right part
pub in_right : (g j i n k m : ℕ) → j < g → i ≡ 2 ^ j + k → n ≡ 2 ^ j + m → k ≤ m → m < 2 ^ j → sides_within g i n ≡ sides_within g k m ++ Right ∷ []
in_right zero j i n k m deep ei en low high = absurd (omega arith)
in_right (suc g) zero i n k m deep ei en low high =
    let ek : k ≡ 0 = omega arith in
    let em : m ≡ 0 = omega arith in
    let hi2 : i / 2 ≡ 0 = omega arith in
    let hn2 : n / 2 ≡ 0 = omega arith in
    let none : sides_within g (i / 2) (n / 2) ≡ [] = ap (λ a. sides_within g a (n / 2)) hi2 ∙ ap (sides_within g 0) hn2 ∙ at_top g in
    let other : sides_within (suc g) k m ≡ [] = ap (λ a. sides_within (suc g) a m) ek ∙ ap (sides_within (suc g) 0) em ∙ at_top (suc g) in
    odd_step g i n (omega arith) ∙ ap (λ ss. Right ∷ ss) none ∙ ap (λ ss. ss ++ Right ∷ []) (sym other)
in_right (suc g) (suc j) i n k m deep ei en low high =
    let twice = pow-succ' 2 j in
    let rest : sides_within g (i / 2) (n / 2) ≡ sides_within g (k / 2) (m / 2) ++ Right ∷ [] = in_right g j (i / 2) (n / 2) (k / 2) (m / 2) (omega arith) (omega arith) (omega arith) (omega arith) (omega arith) in
    elim (cases_eq (i % 2) 1) [
      | inl odd ↦ odd_step g i n odd ∙ ap (λ ss. Right ∷ ss) rest ∙ ap (λ ss. ss ++ Right ∷ []) (sym (odd_step g k m (omega arith)))
      | inr even ↦
          let e : i % 2 ≡ 0 = omega arith in
          elim (cases_lt k m) [
            | inl less ↦ even_step g i n e (omega arith) ∙ ap (λ ss. Left ∷ ss) rest ∙ ap (λ ss. ss ++ Right ∷ []) (sym (even_step g k m (omega arith) less))
            | inr most ↦ alone_step g i n e (omega arith) ∙ rest ∙ ap (λ ss. ss ++ Right ∷ []) (sym (alone_step g k m (omega arith) most))
          ]
    ]
