use Rattle.std.proofs.Common.{◌≡◌, ◌≢◌, ℕ, zero, suc, ◌<◌, ◌⊎◌, inl, inr, cond, eqb, ap, sym, ◌∙◌, arith}
use Rattle.std.proofs.lemmas.Bool.{cases_eq, cond-true, cond-false, eq-eqb, ne_eqb}

-- two places below n at which f is the same
pub record Twice (f : ℕ → ℕ) (n : ℕ) : Type 0 where
  pub first : ℕ
  pub second : ℕ
  pub apart : first < second
  pub within : second < n
  pub equal : f first ≡ f second

-- whether f is v at a place below n
place_of : (f : ℕ → ℕ) (v n : ℕ) → ((i : ℕ) × ((i < n) × (f i ≡ v))) ⊎ ((i : ℕ) → i < n → f i ≢ v)
place_of f v zero = inr (λ i h e. absurd (omega arith))
place_of f v (suc n) = elim (place_of f v n) [
  | inl p ↦ inl (p.0, (omega arith, p.1.1))
  | inr none ↦ elim (cases_eq (f n) v) [
    | inl e ↦ inl (n, (omega arith, e))
    | inr ne ↦ inr (λ i h e. elim (cases_eq i n) [
      | inl s ↦ ne (sym (ap f s) ∙ e)
      | inr o ↦ none i (omega arith) e
    ])
  ]
]

-- f, with v in place of n
without : (f : ℕ → ℕ) (n v : ℕ) → ℕ → ℕ
without f n v i = cond (eqb (f i) n) v (f i)

without_hit : (f : ℕ → ℕ) (n v i : ℕ) → f i ≡ n → without f n v i ≡ v
unfolding without
without_hit f n v i e = cond-true _ _ _ (eq-eqb (f i) n e)

without_miss : (f : ℕ → ℕ) (n v i : ℕ) → f i ≢ n → without f n v i ≡ f i
unfolding without
without_miss f n v i e = cond-false _ _ _ (ne_eqb (f i) n e)

-- one more pigeon than holes
pub pigeons : (n : ℕ) (f : ℕ → ℕ) → ((i : ℕ) → i < suc n → f i < n) → Twice f (suc n)
pigeons zero f h = absurd (let b : f 0 < 0 = h 0 (omega arith) in omega arith)
pigeons (suc n) f h = elim (place_of f (f (suc n)) (suc n)) [
  | inl p ↦ record { first = p.0; second = suc n; apart = p.1.0; within = omega arith; equal = p.1.1 }
  | inr none ↦
      let v : ℕ = f (suc n) in
      let small : (i : ℕ) → i < suc n → without f n v i < n = λ i b. elim (cases_eq (f i) n) [
        | inl e ↦
            let last : v < suc n = h (suc n) (omega arith) in
            let differs : v ≢ n = λ (g : v ≡ n). none i b (e ∙ sym g) in
            let hit : without f n v i ≡ v = without_hit f n v i e in
            omega arith
        | inr o ↦
            let fi : f i < suc n = h i (omega arith) in
            let miss : without f n v i ≡ f i = without_miss f n v i o in
            omega arith
      ] in
      let t = pigeons n (without f n v) small in
      record {
        first = t.first;
        second = t.second;
        apart = t.apart;
        within = (let w : t.second < suc n = t.within in omega arith);
        equal = undone f n v t.first t.second (none t.first (let w : t.second < suc n = t.within in let a : t.first < t.second = t.apart in omega arith)) (none t.second t.within) t.equal;
      }
]
  where
    undone : (f : ℕ → ℕ) (n v i j : ℕ) → f i ≢ v → f j ≢ v → without f n v i ≡ without f n v j → f i ≡ f j
    undone f n v i j ni nj e = elim (cases_eq (f i) n) [
      | inl a ↦ elim (cases_eq (f j) n) [
        | inl b ↦ a ∙ sym b
        | inr b ↦ absurd (nj (sym (sym (without_hit f n v i a) ∙ e ∙ without_miss f n v j b)))
      ]
      | inr a ↦ elim (cases_eq (f j) n) [
        | inl b ↦ absurd (ni (sym (without_miss f n v i a) ∙ e ∙ without_hit f n v j b))
        | inr b ↦ sym (without_miss f n v i a) ∙ e ∙ without_miss f n v j b
      ]
    ]
