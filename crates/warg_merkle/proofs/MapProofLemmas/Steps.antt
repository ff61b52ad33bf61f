-- What is left of a short form above a height.
use Rattle.std.proofs.Common.{◌≡◌, ◌≢◌, ◌↔◌, ℕ, suc, ◌+◌, ◌<◌, ◌≤◌, true, false, List, [], ◌∷◌, length, get_or, drop, refl, sym, ◌∙◌, ap, arith}
use Rattle.std.proofs.lemmas.List.{drop_more, nil_from_length, length-drop}
use Rattle.warg_merkle.specs.Trees.{node_input}
use Rattle.warg_merkle.specs.SparseMap.Maps.{is_right, empty_root}
use Rattle.warg_merkle.specs.MapProof.ShortForms.{others_count, others_of, IsCanonical}
use Rattle.warg_merkle.proofs.MapProofLemmas.Shortness.{of_in, of_out}

pub count_top : (n h : ℕ) (bits : List ℕ) → n ≡ 0 → others_count n h bits ≡ 0
unfolding others_count
count_top n h bits is = ap (λ m. others_count m h bits) is

pub count_out : (n d h k : ℕ) (bits : List ℕ) → n ≡ suc d → k ≡ suc h → is_right bits h ≡ true → others_count n h bits ≡ others_count d k bits
unfolding others_count
count_out n d h k bits is next out = ap (λ m. others_count m h bits) is ∙ rw out (omega (arith, ap (λ j. others_count d j bits) next))

pub count_in : (n d h k : ℕ) (bits : List ℕ) → n ≡ suc d → k ≡ suc h → is_right bits h ≡ false → others_count n h bits ≡ 1 + others_count d k bits
unfolding others_count
count_in n d h k bits is next stays = ap (λ m. others_count m h bits) is ∙ rw stays (omega (arith, ap (λ j. others_count d j bits) next))

of_none : (h : ℕ) (bits : List ℕ) → others_of h bits [] ≡ []
unfolding others_of
of_none h bits = refl

-- the others that are left of a path above a height
pub of_top : (h : ℕ) (bits : List ℕ) (path : List (List ℕ)) → length path ≤ h → others_of h bits (drop h path) ≡ []
of_top h bits path past = ap (others_of h bits) (nil_from_length (drop h path) (omega (arith, length-drop h path))) ∙ of_none h bits

pub of_more_out : (h : ℕ) (bits : List ℕ) (path : List (List ℕ)) → h < length path → is_right bits h ≡ true → others_of h bits (drop h path) ≡ others_of (h + 1) bits (drop (h + 1) path)
of_more_out h bits path below out =
    let next : h + 1 ≡ suc h = omega arith in
    ap (others_of h bits) (drop_more path h [] below) ∙ of_out h bits (get_or path h []) (drop (h + 1) path) out ∙ ap (λ k. others_of k bits (drop (h + 1) path)) (sym next)

pub of_more_in : (h : ℕ) (bits : List ℕ) (path : List (List ℕ)) → h < length path → is_right bits h ≡ false → others_of h bits (drop h path) ≡ get_or path h [] ∷ others_of (h + 1) bits (drop (h + 1) path)
of_more_in h bits path below stays =
    let next : h + 1 ≡ suc h = omega arith in
    ap (others_of h bits) (drop_more path h [] below) ∙ of_in h bits (get_or path h []) (drop (h + 1) path) stays ∙ ap (λ k. get_or path h [] ∷ others_of k bits (drop (h + 1) path)) (sym next)

module _ (hash : List ℕ → List ℕ) where
  -- the empty subtree's root one higher
  pub empty_up : (h k : ℕ) (x : List ℕ) → k ≡ suc h → x ≡ empty_root hash h → hash (node_input x x) ≡ empty_root hash k
  unfolding empty_root
  empty_up h k x next is = rw (is, next) refl

  pub empty_leaf : hash [] ≡ empty_root hash 0
  unfolding empty_root
  empty_leaf = refl

  pub canonical_top : (n h : ℕ) (bits : List ℕ) (os : List (List ℕ)) → n ≡ 0 → IsCanonical hash n h bits os ↔ (os ≡ [])
  unfolding IsCanonical
  canonical_top n h bits os is = rw is (λ c. c, λ e. e)

  pub canonical_out : (n d h k : ℕ) (bits : List ℕ) (os : List (List ℕ)) → n ≡ suc d → k ≡ suc h → is_right bits h ≡ true → IsCanonical hash n h bits os ↔ IsCanonical hash d k bits os
  unfolding IsCanonical
  canonical_out n d h k bits os is next out = rw (is, next, out) (λ c. c.1, λ c. (λ no. cc, c))

  pub canonical_in : (n d h k : ℕ) (bits : List ℕ) (os : List (List ℕ)) (o : List ℕ) (rest : List (List ℕ)) → n ≡ suc d → k ≡ suc h → is_right bits h ≡ false → os ≡ o ∷ rest → o ≢ empty_root hash h → IsCanonical hash n h bits os ↔ IsCanonical hash d k bits rest
  unfolding IsCanonical
  canonical_in n d h k bits os o rest is next stays first differ = rw (is, next, stays, first) (λ c. c.1, λ c. (λ no. (omega arith, differ), c))

  pub canonical_none : (n d h : ℕ) (bits : List ℕ) (os : List (List ℕ)) → n ≡ suc d → is_right bits h ≡ false → length os ≡ 0 → ¬ IsCanonical hash n h bits os
  unfolding IsCanonical
  canonical_none n d h bits os is stays none = rw is (λ c. let some = (c.0 stays).0 in absurd (omega arith))

  pub canonical_empty : (n d h : ℕ) (bits : List ℕ) (os : List (List ℕ)) (o : List ℕ) (rest : List (List ℕ)) → n ≡ suc d → is_right bits h ≡ false → os ≡ o ∷ rest → o ≡ empty_root hash h → ¬ IsCanonical hash n h bits os
  unfolding IsCanonical
  canonical_empty n d h bits os o rest is stays first same = rw is (λ c. (c.0 stays).1 (ap (λ qs. get_or qs 0 []) first ∙ same))
