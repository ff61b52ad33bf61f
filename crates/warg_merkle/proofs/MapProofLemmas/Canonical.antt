-- The path of bytes, or why they have none.
use Rattle.std.proofs.Common.{◌≡◌, ◌≢◌, ◌↔◌, ℕ, zero, suc, ◌<◌, Bool, true, false, not, ◌&&◌, ◌||◌, ltb, if◌then◌else◌, IsTrue, List, [], ◌∷◌, length, get_or, take, drop, Result, Ok, Err, inl, inr, refl, ap, arith}
use Rattle.std.specs.Str.{bytes_eq}
use Rattle.std.proofs.lemmas.Bool.{cases_Bool}
use Rattle.std.proofs.lemmas.Bool.Decides.{Decides-eqb, nat_tests, not_from_Decides}
use Rattle.std.proofs.lemmas.List.{nil_from_length}
use Rattle.std.proofs.lemmas.Slice.Eq.{bytes_eq-Decides}
use Rattle.warg_merkle.specs.SparseMap.Maps.{is_right, empty_root}
use Rattle.warg_merkle.specs.MapProof.ShortForms.{others_in, short_form_len, IsCanonical, IsShort, is_canonical, path_of, path_in}
use Rattle.warg_merkle.specs.declared.map_proof.error.MapProofError.{MapProofError}
use Rattle.warg_merkle.specs.declared.map_proof.error.MapProofError.TheVariants.{TooShort, TooLong, EmptySibling}

-- the answer by the tests
abbrev chosen : (a b c : Bool) (path : List (List ℕ)) → Result (List (List ℕ)) MapProofError
chosen a b c path = if a then Err TooShort else (if b then Err TooLong else (if c then Ok path else Err EmptySibling))

module _ (hash : List ℕ → List ℕ) where
  -- a sibling that is not left out
  test_in : (rest : Bool) (Rest : Type 0) (h : ℕ) (os : List (List ℕ)) → (IsTrue rest ↔ Rest)
      → IsTrue ((false || (ltb 0 (length os) && not (bytes_eq (get_or os 0 []) (empty_root hash h)))) && rest) ↔ ((false ≡ false → (0 < length os) × (get_or os 0 [] ≢ empty_root hash h)) × Rest)
  test_in rest Rest h [] both = (λ t. cc, λ c. let some = (c.0 refl).0 in absurd (omega arith))
  test_in rest Rest h (o ∷ os) both =
      let some : ltb 0 (length (o ∷ os)) ≡ true = grind (arith, nat_tests) in
      let decides = bytes_eq-Decides o (empty_root hash h) in
      elim (cases_Bool (bytes_eq o (empty_root hash h))) [
        | inl same ↦ rw (some, same) (λ t. cc, λ c. absurd ((c.0 refl).1 (decides.0 same)))
        | inr differ ↦ rw (some, differ) (λ t. (λ e. (omega arith, not_from_Decides (bytes_eq o (empty_root hash h)) decides differ), both.0 t), λ c. both.1 c.1)
      ]

  pub canonical_test : (n h : ℕ) (bits : List ℕ) (os : List (List ℕ)) → IsTrue (is_canonical hash n h bits os) ↔ IsCanonical hash n h bits os
  unfolding is_canonical IsCanonical
  canonical_test zero h bits os = let decides = Decides-eqb (length os) 0 in (λ t. nil_from_length os (decides.0 t), λ e. decides.1 (ap length e))
  canonical_test (suc n) h bits os = elim (cases_Bool (is_right bits h)) [
    | inl out ↦ let rest = canonical_test n (suc h) bits os in rw out (λ t. (λ no. cc, rest.0 t), λ c. rest.1 c.1)
    | inr stays ↦
        let rest = canonical_test n (suc h) bits (drop 1 os) in
        rw stays (test_in (is_canonical hash n (suc h) bits (drop 1 os)) (IsCanonical hash n (suc h) bits (drop 1 os)) h os rest)
  ]

  -- by cases
  by_tests : (bytes : List ℕ) (a b c : Bool) → ltb (length bytes) (short_form_len bytes) ≡ a → ltb (short_form_len bytes) (length bytes) ≡ b
      → is_canonical hash 256 0 (take 32 bytes) (others_in bytes) ≡ c → path_in hash bytes ≡ chosen a b c (path_of hash bytes)
  by_tests bytes a b c ea eb ec = rw (ea, eb, ec) refl

  pub too_short : (bytes : List ℕ) → length bytes < short_form_len bytes → path_in hash bytes ≡ Err TooShort
  too_short bytes less =
      let a : ltb (length bytes) (short_form_len bytes) ≡ true = grind (arith, nat_tests) in
      by_tests bytes true (ltb (short_form_len bytes) (length bytes)) (is_canonical hash 256 0 (take 32 bytes) (others_in bytes)) a refl refl

  pub too_long : (bytes : List ℕ) → short_form_len bytes < length bytes → path_in hash bytes ≡ Err TooLong
  too_long bytes more =
      let a : ltb (length bytes) (short_form_len bytes) ≡ false = grind (arith, nat_tests) in
      let b : ltb (short_form_len bytes) (length bytes) ≡ true = grind (arith, nat_tests) in
      by_tests bytes false true (is_canonical hash 256 0 (take 32 bytes) (others_in bytes)) a b refl

  pub empty_sibling : (bytes : List ℕ) → length bytes ≡ short_form_len bytes → ¬ IsCanonical hash 256 0 (take 32 bytes) (others_in bytes) → path_in hash bytes ≡ Err EmptySibling
  empty_sibling bytes size differs =
      let a : ltb (length bytes) (short_form_len bytes) ≡ false = grind (arith, nat_tests) in
      let b : ltb (short_form_len bytes) (length bytes) ≡ false = grind (arith, nat_tests) in
      let c : is_canonical hash 256 0 (take 32 bytes) (others_in bytes) ≡ false = elim (cases_Bool (is_canonical hash 256 0 (take 32 bytes) (others_in bytes))) [
        | inl is ↦ absurd (differs ((canonical_test 256 0 (take 32 bytes) (others_in bytes)).0 is))
        | inr is_not ↦ is_not
      ] in
      by_tests bytes false false false a b c

  pub of_short : (bytes : List ℕ) → IsShort hash bytes → path_in hash bytes ≡ Ok (path_of hash bytes)
  of_short bytes short =
      let size = short.size in
      let a : ltb (length bytes) (short_form_len bytes) ≡ false = grind (arith, nat_tests) in
      let b : ltb (short_form_len bytes) (length bytes) ≡ false = grind (arith, nat_tests) in
      by_tests bytes false false true a b ((canonical_test 256 0 (take 32 bytes) (others_in bytes)).1 short.canonical)
