-- What the bits leave out of a path, and what they and the others give.
use Rattle.std.proofs.Common.{◌≡◌, ◌↔◌, ℕ, zero, suc, ◌+◌, ◌<◌, true, false, IsTrue, List, [], ◌∷◌, length, get_or, drop, inl, inr, refl, sym, ◌∙◌, ap, arith}
use Rattle.std.specs.List.{All}
use Rattle.std.proofs.lemmas.Bool.{cases_Bool}
use Rattle.warg_merkle.specs.SparseMap.Maps.{is_right, empty_root}
use Rattle.warg_merkle.specs.MapProof.ShortForms.{is_left_out, others_count, others_of, others_above, sibling_at, siblings, IsCanonical}

pub head_tail : (os : List (List ℕ)) → 0 < length os → get_or os 0 [] ∷ drop 1 os ≡ os
head_tail [] some = absurd (omega arith)
head_tail (o ∷ os) some = refl

-- the same by cases
above_out : (h : ℕ) (bits : List ℕ) (os : List (List ℕ)) → is_right bits h ≡ true → others_above h bits os ≡ os
above_out h bits os e = rw e refl

above_in : (h : ℕ) (bits : List ℕ) (os : List (List ℕ)) → is_right bits h ≡ false → others_above h bits os ≡ drop 1 os
above_in h bits os e = rw e refl

pub of_out : (h : ℕ) (bits p : List ℕ) (ps : List (List ℕ)) → is_right bits h ≡ true → others_of h bits (p ∷ ps) ≡ others_of (suc h) bits ps
unfolding others_of
of_out h bits p ps e = rw e refl

pub of_in : (h : ℕ) (bits p : List ℕ) (ps : List (List ℕ)) → is_right bits h ≡ false → others_of h bits (p ∷ ps) ≡ p ∷ others_of (suc h) bits ps
unfolding others_of
of_in h bits p ps e = rw e refl

-- as many others as the bits do not leave out
pub length-others_of : (ps : List (List ℕ)) (h : ℕ) (bits : List ℕ) → length (others_of h bits ps) ≡ others_count (length ps) h bits
unfolding others_count others_of
length-others_of [] h bits = refl
length-others_of (p ∷ ps) h bits = elim (cases_Bool (is_right bits h)) [
  | inl out ↦ rw out (omega (arith, length-others_of ps (suc h) bits))
  | inr stays ↦ rw stays (omega (arith, length-others_of ps (suc h) bits))
]

pub all_others_of : (ps : List (List ℕ)) (h : ℕ) (bits : List ℕ) → All (λ p. length p ≡ 32) ps → All (λ p. length p ≡ 32) (others_of h bits ps)
unfolding others_of
all_others_of [] h bits hs = λ k d below. absurd (omega arith)
all_others_of (p ∷ ps) h bits hs =
    let rest : All (λ p. length p ≡ 32) ps = λ k d below. hs (suc k) d (omega arith) in
    elim (cases_Bool (is_right bits h)) [
      | inl out ↦ rw out (all_others_of ps (suc h) bits rest)
      | inr stays ↦ rw stays (all_more p (others_of (suc h) bits ps) (hs 0 p (omega arith)) (all_others_of ps (suc h) bits rest))
    ]
  where
    all_more : (p : List ℕ) (ps : List (List ℕ)) → length p ≡ 32 → All (λ p. length p ≡ 32) ps → All (λ p. length p ≡ 32) (p ∷ ps)
    all_more p ps hp hs zero d below = hp
    all_more p ps hp hs (suc k) d below = hs k d (omega arith)

all_drop : (os : List (List ℕ)) → All (λ p. length p ≡ 32) os → All (λ p. length p ≡ 32) (drop 1 os)
all_drop [] hs = hs
all_drop (o ∷ os) hs = λ k d below. hs (suc k) d (omega arith)

all_above : (h : ℕ) (bits : List ℕ) (os : List (List ℕ)) → All (λ p. length p ≡ 32) os → All (λ p. length p ≡ 32) (others_above h bits os)
all_above h bits os hs = elim (cases_Bool (is_right bits h)) [
  | inl out ↦ rw out hs
  | inr stays ↦ rw stays (all_drop os hs)
]

module _ (hash : List ℕ → List ℕ) where
  pub length-siblings : (n h : ℕ) (bits : List ℕ) (os : List (List ℕ)) → length (siblings hash n h bits os) ≡ n
  unfolding siblings
  length-siblings zero h bits os = refl
  length-siblings (suc n) h bits os = ap (λ k. suc k) (length-siblings n (suc h) bits (others_above h bits os))

  at_out : (h : ℕ) (bits : List ℕ) (os : List (List ℕ)) → is_right bits h ≡ true → sibling_at hash h bits os ≡ empty_root hash h
  at_out h bits os e = rw e refl

  at_in : (h : ℕ) (bits : List ℕ) (os : List (List ℕ)) → is_right bits h ≡ false → sibling_at hash h bits os ≡ get_or os 0 []
  at_in h bits os e = rw e refl

  -- the others are those of the path that they give
  pub others_of-siblings : (n h : ℕ) (bits : List ℕ) (os : List (List ℕ)) → IsCanonical hash n h bits os → others_of h bits (siblings hash n h bits os) ≡ os
  unfolding siblings others_of IsCanonical
  others_of-siblings zero h bits os c = sym c
  others_of-siblings (suc n) h bits os c =
      let rest = others_of-siblings n (suc h) bits (others_above h bits os) c.1 in
      elim (cases_Bool (is_right bits h)) [
        | inl out ↦ of_out h bits (sibling_at hash h bits os) (siblings hash n (suc h) bits (others_above h bits os)) out ∙ rest ∙ above_out h bits os out
        | inr stays ↦
            of_in h bits (sibling_at hash h bits os) (siblings hash n (suc h) bits (others_above h bits os)) stays
            ∙ ap (λ os'. sibling_at hash h bits os ∷ os') (rest ∙ above_in h bits os stays)
            ∙ ap (λ o. o ∷ drop 1 os) (at_in h bits os stays)
            ∙ head_tail os (c.0 stays).0
      ]

  -- the bits say which siblings are roots of empty subtrees
  pub bits_say : (n h : ℕ) (bits : List ℕ) (os : List (List ℕ)) → IsCanonical hash n h bits os → (i k : ℕ) → k ≡ h + i → i < n → IsTrue (is_left_out bits k) ↔ (get_or (siblings hash n h bits os) i [] ≡ empty_root hash k)
  unfolding siblings IsCanonical
  bits_say zero h bits os c i k at below = absurd (omega arith)
  bits_say (suc n) h bits os c zero k at below =
      let is : k ≡ h = omega arith in
      elim (cases_Bool (is_right bits h)) [
        | inl out ↦ (λ t. at_out h bits os out ∙ ap (empty_root hash) (sym is), λ e. ap (is_right bits) is ∙ out)
        | inr stays ↦ (λ t. absurd (let b : is_right bits k ≡ false = ap (is_right bits) is ∙ stays in cc), λ e. absurd ((c.0 stays).1 (sym (at_in h bits os stays) ∙ e ∙ ap (empty_root hash) is)))
      ]
  bits_say (suc n) h bits os c (suc i) k at below = bits_say n (suc h) bits (others_above h bits os) c.1 i k (omega arith) (omega arith)

  root_long : ((m : List ℕ) → length (hash m) ≡ 32) → (h : ℕ) → length (empty_root hash h) ≡ 32
  unfolding empty_root
  root_long long zero = long _
  root_long long (suc h) = long _

  -- the siblings are of 32 bytes where the others are
  pub all_siblings : ((m : List ℕ) → length (hash m) ≡ 32) → (n h : ℕ) (bits : List ℕ) (os : List (List ℕ)) → IsCanonical hash n h bits os → All (λ p. length p ≡ 32) os → All (λ p. length p ≡ 32) (siblings hash n h bits os)
  unfolding siblings IsCanonical
  all_siblings long zero h bits os c hs k d below = absurd (omega arith)
  all_siblings long (suc n) h bits os c hs zero d below = elim (cases_Bool (is_right bits h)) [
    | inl out ↦ ap length (at_out h bits os out) ∙ root_long long h
    | inr stays ↦ ap length (at_in h bits os stays) ∙ hs 0 [] (c.0 stays).0
  ]
  all_siblings long (suc n) h bits os c hs (suc k) d below = all_siblings long n (suc h) bits (others_above h bits os) c.1 (all_above h bits os hs) k d (omega arith)

  -- the bits of a path, as they have to be
  pub record SayOf (bits : List ℕ) (h : ℕ) (path : List (List ℕ)) : Type 0 where
    pub say : (i k : ℕ) → k ≡ h + i → i < length path → IsTrue (is_left_out bits k) ↔ (get_or path i [] ≡ empty_root hash k)

  say_rest : (bits : List ℕ) (h : ℕ) (p : List ℕ) (ps : List (List ℕ)) → SayOf bits h (p ∷ ps) → SayOf bits (suc h) ps
  say_rest bits h p ps s = record { say = λ i k at below. s.say (suc i) k (omega arith) (omega arith) }

  -- a path from its bits and its others
  pub siblings-others_of : (path : List (List ℕ)) (h : ℕ) (bits : List ℕ) → SayOf bits h path → siblings hash (length path) h bits (others_of h bits path) ≡ path
  unfolding siblings others_of
  siblings-others_of [] h bits s = refl
  siblings-others_of (p ∷ ps) h bits s =
      let rest = siblings-others_of ps (suc h) bits (say_rest bits h p ps s) in
      let here = s.say 0 h (omega arith) (omega arith) in
      elim (cases_Bool (is_right bits h)) [
        | inl out ↦ let first : p ≡ empty_root hash h = here.0 out in rw out (ap (λ q. q ∷ siblings hash (length ps) (suc h) bits (others_of (suc h) bits ps)) (sym first) ∙ ap (λ qs. p ∷ qs) rest)
        | inr stays ↦ rw stays (ap (λ qs. p ∷ qs) rest)
      ]

  pub canonical-others_of : (path : List (List ℕ)) (h : ℕ) (bits : List ℕ) → SayOf bits h path → IsCanonical hash (length path) h bits (others_of h bits path)
  unfolding IsCanonical others_of
  canonical-others_of [] h bits s = refl
  canonical-others_of (p ∷ ps) h bits s =
      let rest = canonical-others_of ps (suc h) bits (say_rest bits h p ps s) in
      let here = s.say 0 h (omega arith) (omega arith) in
      elim (cases_Bool (is_right bits h)) [
        | inl out ↦ rw out (λ no. cc, rest)
        | inr stays ↦ rw stays (λ no. (omega arith, λ e. let is : is_right bits h ≡ true = here.1 e in cc), rest)
      ]
