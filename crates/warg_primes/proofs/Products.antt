use Rattle.std.proofs.Common.{◌≡◌, ◌≢◌, ℕ, zero, suc, ◌*◌, ◌<◌, ◌⊎◌, inl, inr, cond, eqb, ap, sym, ◌∙◌, refl, arith}
use Rattle.std.proofs.lemmas.Bool.{cases_eq, cases_lt, cond-true, cond-false, eq-eqb, ne_eqb}
use Rattle.warg_primes.proofs.Pigeons.{Twice, pigeons}

-- f 0 * f 1 * .. * f (n - 1)
pub product : (ℕ → ℕ) → ℕ → ℕ
product f zero = 1
product f (suc n) = product f n * f n

pub product_none : (f : ℕ → ℕ) → product f 0 ≡ 1
unfolding product
product_none f = refl

pub product_more : (f : ℕ → ℕ) (n : ℕ) → product f (suc n) ≡ product f n * f n
unfolding product
product_more f n = refl

pub product_same : (f g : ℕ → ℕ) (n : ℕ) → ((i : ℕ) → i < n → f i ≡ g i) → product f n ≡ product g n
unfolding product
product_same f g zero h = refl
product_same f g (suc n) h = ap (λ v. v * f n) (product_same f g n (λ i b. h i (omega arith))) ∙ ap (λ v. product g n * v) (h n (omega arith))

-- f and g that agree at all places but i
product_but : (f g : ℕ → ℕ) (n i : ℕ) → i < n → ((j : ℕ) → j < n → j ≢ i → f j ≡ g j) → product f n * g i ≡ product g n * f i
unfolding product
product_but f g zero i b h = absurd (omega arith)
product_but f g (suc n) i b h = elim (cases_eq i n) [
  | inl e ↦
      let same : product f n ≡ product g n = product_same f g n (λ j l. h j (omega arith) (λ (z : j ≡ i). absurd (omega arith))) in
      ap (λ v. product f n * f n * g v) e ∙ ap (λ v. v * f n * g n) same ∙ turned (product g n) (f n) (g n) ∙ ap (λ v. product g n * g n * f v) (sym e)
  | inr o ↦
      let k : product f n * g i ≡ product g n * f i = product_but f g n i (omega arith) (λ j l m. h j (omega arith) m) in
      let last : f n ≡ g n = h n (omega arith) (λ (z : n ≡ i). o (sym z)) in
      turned (product f n) (f n) (g i) ∙ ap (λ v. v * f n) k ∙ ap (λ v. product g n * f i * v) last ∙ turned (product g n) (f i) (g n)
]
  where
    turned : (a b c : ℕ) → a * b * c ≡ a * c * b
    turned a b c = omega arith

-- g, with the value of the last place at the place i
patched : (ℕ → ℕ) → ℕ → ℕ → ℕ → ℕ
patched g n i j = cond (eqb j i) (g n) (g j)

patched_hit : (g : ℕ → ℕ) (n i j : ℕ) → j ≡ i → patched g n i j ≡ g n
unfolding patched
patched_hit g n i j e = cond-true _ _ _ (eq-eqb j i e)

patched_miss : (g : ℕ → ℕ) (n i j : ℕ) → j ≢ i → patched g n i j ≡ g j
unfolding patched
patched_miss g n i j e = cond-false _ _ _ (ne_eqb j i e)

-- different places below n have different values below n
pub record Permutes (g : ℕ → ℕ) (n : ℕ) : Type 0 where
  pub within : (i : ℕ) → i < n → g i < n
  pub apart : (i : ℕ) (j : ℕ) → i < j → j < n → g i ≢ g j

apart_both : (g : ℕ → ℕ) (n : ℕ) → Permutes g n → (i j : ℕ) → i < n → j < n → i ≢ j → g i ≢ g j
apart_both g n p i j hi hj d e = elim (cases_lt i j) [ inl l ↦ p.apart i j l hj e | inr l ↦ p.apart j i (omega arith) hi (sym e) ]

-- the place of a value
hits : (g : ℕ → ℕ) (v n : ℕ) → ((i : ℕ) × ((i < n) × (g i ≡ v))) ⊎ ((i : ℕ) → i < n → g i ≢ v)
hits g v zero = inr (λ i h e. absurd (omega arith))
hits g v (suc n) = elim (hits g v n) [
  | inl p ↦ inl (p.0, (omega arith, p.1.1))
  | inr none ↦ elim (cases_eq (g n) v) [
    | inl e ↦ inl (n, (omega arith, e))
    | inr ne ↦ inr (λ i h e. elim (cases_eq i n) [ inl s ↦ ne (sym (ap g s) ∙ e) | inr o ↦ none i (omega arith) e ])
  ]
]

last_hit : (g : ℕ → ℕ) (n : ℕ) → Permutes g (suc n) → (i : ℕ) × ((i < suc n) × (g i ≡ n))
last_hit g n p = elim (hits g n (suc n)) [
  | inl h ↦ h
  | inr none ↦
      let t : Twice g (suc n) = pigeons n g (λ i b. let w : g i < suc n = p.within i b in let d : g i ≢ n = none i b in omega arith) in
      absurd (p.apart t.first t.second t.apart t.within t.equal)
]

pub permuted : (h g : ℕ → ℕ) (n : ℕ) → Permutes g n → product (λ i. h (g i)) n ≡ product h n
permuted h g zero p = product_none (λ i. h (g i)) ∙ sym (product_none h)
permuted h g (suc n) p =
    let l = last_hit g n p in
    let i : ℕ = l.0 in
    elim (cases_eq i n) [
      | inl e ↦
          let gn : g n ≡ n = ap g (sym e) ∙ l.1.1 in
          let rest : Permutes g n = record {
            within = λ j b. (let w : g j < suc n = p.within j (omega arith) in let d : g j ≢ g n = apart_both g (suc n) p j n (omega arith) (omega arith) (omega arith) in omega arith);
            apart = λ j k a b. p.apart j k a (omega arith);
          } in
          product_more (λ j. h (g j)) n ∙ ap (λ v. v * h (g n)) (permuted h g n rest) ∙ ap (λ v. product h n * h v) gn ∙ sym (product_more h n)
      | inr o ↦
          let below : i < n = (let b : i < suc n = l.1.0 in omega arith) in
          let q : ℕ → ℕ = patched g n i in
          let rest : Permutes q n = record {
            within = λ j b. elim (cases_eq j i) [
              | inl s ↦ (let z : q j ≡ g n = patched_hit g n i j s in let w : g n < suc n = p.within n (omega arith) in let d : g n ≢ g i = apart_both g (suc n) p n i (omega arith) (omega arith) (omega arith) in let gi : g i ≡ n = l.1.1 in omega arith)
              | inr s ↦ (let z : q j ≡ g j = patched_miss g n i j s in let w : g j < suc n = p.within j (omega arith) in let d : g j ≢ g i = apart_both g (suc n) p j i (omega arith) (omega arith) s in let gi : g i ≡ n = l.1.1 in omega arith)
            ];
            apart = λ j k a b. patched_apart g n i p j k a b;
          } in
          let ih : product (λ j. h (q j)) n ≡ product h n = permuted h q n rest in
          let but : product (λ j. h (g j)) n * h (q i) ≡ product (λ j. h (q j)) n * h (g i) = product_but (λ j. h (g j)) (λ j. h (q j)) n i below (λ j b d. ap h (sym (patched_miss g n i j d))) in
          product_more (λ j. h (g j)) n ∙ ap (λ v. product (λ j. h (g j)) n * h v) (sym (patched_hit g n i i refl)) ∙ but ∙ ap (λ v. v * h (g i)) ih ∙ ap (λ v. product h n * h v) l.1.1 ∙ sym (product_more h n)
    ]
  where
    patched_apart : (g : ℕ → ℕ) (n i : ℕ) → Permutes g (suc n) → (j k : ℕ) → j < k → k < n → patched g n i j ≢ patched g n i k
    patched_apart g n i p j k a b e = elim (cases_eq j i) [
      | inl sj ↦
          let ek : patched g n i k ≡ g k = patched_miss g n i k (λ (z : k ≡ i). absurd (omega arith)) in
          p.apart k n b (omega arith) (sym ek ∙ sym e ∙ patched_hit g n i j sj)
      | inr sj ↦ elim (cases_eq k i) [
        | inl sk ↦ p.apart j n (omega arith) (omega arith) (sym (patched_miss g n i j sj) ∙ e ∙ patched_hit g n i k sk)
        | inr sk ↦ p.apart j k a (omega arith) (sym (patched_miss g n i j sj) ∙ e ∙ patched_miss g n i k sk)
      ]
    ]
