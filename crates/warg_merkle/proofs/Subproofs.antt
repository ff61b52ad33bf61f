-- Consistency proofs are those that RFC 9162 defines.
use Rattle.std.proofs.Common.{◌≡◌, ◌≢◌, ℕ, zero, suc, ◌+◌, ◌-◌, ◌^◌, ◌<◌, ◌≤◌, ◌==◌, Bool, true, false, if◌then◌else◌, List, [], ◌∷◌, ◌++◌, length, take, drop, inl, inr, refl, sym, ◌∙◌, ap, arith}
use Rattle.std.proofs.Math.Nat.{pow-succ'}
use Rattle.std.proofs.lemmas.Nat.{pow_pos}
use Rattle.std.proofs.lemmas.Bool.{cases_Bool, cases_lt, cases_eq}
use Rattle.std.proofs.lemmas.Bool.Decides.{Decides-eqb}
use Rattle.std.proofs.lemmas.List.{length-take-le, length-drop, length_push, drop-append-le}
use Rattle.warg_merkle.specs.Trees.{IsLeftSize, left_size, tree_hash}
use Rattle.warg_merkle.specs.Extensions.{start_index, extension_within, extension, consistency_path, subproof, IsSubproof, consistency_proof}
use Rattle.warg_merkle.proofs.Sizes.{left_part, left_pos, power_order, is_left_size}
use Rattle.warg_merkle.proofs.Extending.{path_whole, path_left, path_right}
use Rattle.warg_merkle.proofs.ExtensionPaths.{power_from_start, start_from_power}

pub not_equal : (m n : ℕ) → m ≢ n → (m == n) ≡ false
not_equal m n differ = elim (cases_Bool (m == n)) [ inl is ↦ absurd (differ ((Decides-eqb m n).0 is)) | inr is_not ↦ is_not ]

pub is_equal : (m n : ℕ) → m ≡ n → (m == n) ≡ true
is_equal m n same = (Decides-eqb m n).1 same

-- a power of two is whole, and what lies between two is not
whole_power : (k j : ℕ) → k ≡ 2 ^ j → k ≤ 2 ^ 64 → (start_index 64 (k - 1) == 0) ≡ true
whole_power k j is few =
    let pos = pow_pos j in
    is_equal (start_index 64 (k - 1)) 0 (start_from_power 64 j (k - 1) (omega arith) (omega arith))

not_whole : (m k j : ℕ) → k ≡ 2 ^ j → k < m → m < 2 ^ suc j → m ≤ 2 ^ 64 → (start_index 64 (m - 1) == 0) ≡ false
not_whole m k j is low high few = not_equal (start_index 64 (m - 1)) 0 (λ none.
    let power = power_from_start 64 (m - 1) (omega arith) none in
    let e = power.1 in
    let above : j < power.0 = power_order j power.0 (omega arith) in
    let below : power.0 < suc j = power_order power.0 (suc j) (omega arith) in
    omega arith)

module _ (hash : List ℕ → List ℕ) where
  -- more fuel than leaves gives one path
  enough : (f g m : ℕ) (ds : List (List ℕ)) → 0 < m → 0 < length ds → length ds ≤ f → length ds ≤ g → extension_within hash f m ds ≡ extension_within hash g m ds
  enough zero g m ds pos some hf hg = absurd (omega arith)
  enough (suc f) zero m ds pos some hf hg = absurd (omega arith)
  enough (suc f) (suc g) m ds pos some hf hg = elim (cases_lt m (length ds)) [
    | inr most ↦ path_whole hash f m ds most ∙ sym (path_whole hash g m ds most)
    | inl less ↦
        let k : ℕ = left_size (length ds) in
        let part = left_part (length ds) (omega arith) in
        let below = part.below in
        let more = left_pos (length ds) (omega arith) in
        let lt : length (take k ds) ≡ k = length-take-le k ds (omega arith) in
        let ld : length (drop k ds) ≡ length ds - k = length-drop k ds in
        elim (cases_lt k m) [
          | inr low ↦ path_left hash f m ds less low ∙ ap (λ ps. ps ++ tree_hash hash (drop k ds) ∷ []) (enough f g m (take k ds) pos (omega arith) (omega arith) (omega arith)) ∙ sym (path_left hash g m ds less low)
          | inl high ↦ path_right hash f m ds less high ∙ ap (λ ps. ps ++ tree_hash hash (take k ds) ∷ []) (enough f g (m - k) (drop k ds) (omega arith) (omega arith) (omega arith) (omega arith)) ∙ sym (path_right hash g m ds less high)
        ]
  ]

  pub of_whole : (m : ℕ) (ds : List (List ℕ)) → 0 < length ds → length ds ≤ m → extension hash m ds ≡ tree_hash hash ds ∷ []
  unfolding extension
  of_whole m ds some most = enough (length ds) (suc (length ds)) m ds (omega arith) some (omega arith) (omega arith) ∙ path_whole hash (length ds) m ds most

  pub of_left : (m k : ℕ) (ds : List (List ℕ)) → 0 < m → m < length ds → left_size (length ds) ≡ k → m ≤ k → extension hash m ds ≡ extension hash m (take k ds) ++ tree_hash hash (drop k ds) ∷ []
  unfolding extension
  of_left m k ds pos less is low =
      let part = left_part (length ds) (omega arith) in
      let below = part.below in
      let lt : length (take k ds) ≡ k = length-take-le k ds (omega arith) in
      enough (length ds) (suc (length ds)) m ds pos (omega arith) (omega arith) (omega arith)
      ∙ path_left hash (length ds) m ds less (omega arith)
      ∙ ap (λ n. extension_within hash (length ds) m (take n ds) ++ tree_hash hash (drop n ds) ∷ []) is
      ∙ ap (λ ps. ps ++ tree_hash hash (drop k ds) ∷ []) (enough (length ds) (length (take k ds)) m (take k ds) pos (omega arith) (omega arith) (omega arith))

  pub of_right : (m k : ℕ) (ds : List (List ℕ)) → m < length ds → left_size (length ds) ≡ k → k < m → extension hash m ds ≡ extension hash (m - k) (drop k ds) ++ tree_hash hash (take k ds) ∷ []
  unfolding extension
  of_right m k ds less is high =
      let ld : length (drop k ds) ≡ length ds - k = length-drop k ds in
      enough (length ds) (suc (length ds)) m ds (omega arith) (omega arith) (omega arith) (omega arith)
      ∙ path_right hash (length ds) m ds less (omega arith)
      ∙ ap (λ n. extension_within hash (length ds) (m - n) (drop n ds) ++ tree_hash hash (take n ds) ∷ []) is
      ∙ ap (λ ps. ps ++ tree_hash hash (take k ds) ∷ []) (enough (length ds) (length (drop k ds)) (m - k) (drop k ds) (omega arith) (omega arith) (omega arith) (omega arith))

  extension_some : (m : ℕ) (ds : List (List ℕ)) → 0 < m → 0 < length ds → 1 ≤ length (extension hash m ds)
  extension_some m ds pos some = elim (cases_lt m (length ds)) [
    | inr most ↦ let e : length (extension hash m ds) ≡ 1 = ap length (of_whole m ds some most) in omega arith
    | inl less ↦ let k : ℕ = left_size (length ds) in elim (cases_lt k m) [
      | inr low ↦ let e : length (extension hash m ds) ≡ length (extension hash m (take k ds)) + 1 = ap length (of_left m k ds pos less refl low) ∙ length_push (extension hash m (take k ds)) (tree_hash hash (drop k ds)) in omega arith
      | inl high ↦ let e : length (extension hash m ds) ≡ length (extension hash (m - k) (drop k ds)) + 1 = ap length (of_right m k ds less refl high) ∙ length_push (extension hash (m - k) (drop k ds)) (tree_hash hash (take k ds)) in omega arith
    ]
  ]

  pub known_some : (m : ℕ) (ds : List (List ℕ)) → m ≢ length ds → subproof hash m ds true ≡ consistency_path hash m ds
  known_some m ds differ = rw (not_equal m (length ds) differ) refl

  pub known_all : (m : ℕ) (ds : List (List ℕ)) → m ≡ length ds → subproof hash m ds true ≡ []
  known_all m ds same = rw (is_equal m (length ds) same) refl

  path_if_whole : (m : ℕ) (ds : List (List ℕ)) → (start_index 64 (m - 1) == 0) ≡ true → consistency_path hash m ds ≡ drop 1 (extension hash m ds)
  path_if_whole m ds is = rw is refl

  path_if_not : (m : ℕ) (ds : List (List ℕ)) → (start_index 64 (m - 1) == 0) ≡ false → consistency_path hash m ds ≡ extension hash m ds
  path_if_not m ds is = rw is refl

  left_known : (m k j : ℕ) (ds : List (List ℕ)) → length ds ≤ 2 ^ 64 → 0 < m → m < length ds → left_size (length ds) ≡ k → k ≡ 2 ^ j → k < length ds → m ≤ k → subproof hash m ds true ≡ subproof hash m (take k ds) true ++ tree_hash hash (drop k ds) ∷ []
  left_known m k j ds few pos less is power below low =
      let r : List ℕ = tree_hash hash (drop k ds) in
      let lt : length (take k ds) ≡ k = length-take-le k ds (omega arith) in
      let here : subproof hash m ds true ≡ consistency_path hash m ds = known_some m ds (λ same. omega arith) in
      elim (cases_Bool (start_index 64 (m - 1) == 0)) [
        | inl whole ↦
            here ∙ path_if_whole m ds whole ∙ ap (drop 1) (of_left m k ds pos less is low) ∙ elim (cases_eq m k) [
              | inl same ↦
                  let one : extension hash m (take k ds) ≡ tree_hash hash (take k ds) ∷ [] = of_whole m (take k ds) (omega arith) (omega arith) in
                  ap (λ ps. drop 1 (ps ++ r ∷ [])) one ∙ sym (ap (λ ps. ps ++ r ∷ []) (known_all m (take k ds) (same ∙ sym lt)))
              | inr differ ↦
                  drop-append-le 1 (extension hash m (take k ds)) (r ∷ []) (extension_some m (take k ds) pos (omega arith))
                  ∙ ap (λ ps. ps ++ r ∷ []) (sym (known_some m (take k ds) (λ same. differ (same ∙ lt)) ∙ path_if_whole m (take k ds) whole))
            ]
        | inr not ↦
            let differ : m ≢ k = λ same. absurd (elim (cases_Bool (start_index 64 (k - 1) == 0)) [ inl is_whole ↦ (let e : true ≡ false = sym is_whole ∙ ap (λ n. (start_index 64 (n - 1) == 0)) (sym same) ∙ not in cc) | inr is_not ↦ (let e : true ≡ false = sym (whole_power k j power (omega arith)) ∙ is_not in cc) ]) in
            here ∙ path_if_not m ds not ∙ of_left m k ds pos less is low
            ∙ ap (λ ps. ps ++ r ∷ []) (sym (known_some m (take k ds) (λ same. differ (same ∙ lt)) ∙ path_if_not m (take k ds) not))
      ]

  right_known : (m k j : ℕ) (ds : List (List ℕ)) → length ds ≤ 2 ^ 64 → m < length ds → left_size (length ds) ≡ k → k ≡ 2 ^ j → length ds ≤ 2 ^ suc j → k < m → subproof hash m ds true ≡ extension hash (m - k) (drop k ds) ++ tree_hash hash (take k ds) ∷ []
  right_known m k j ds few less is power most high =
      known_some m ds (λ same. omega arith) ∙ path_if_not m ds (not_whole m k j power high (omega arith) (omega arith)) ∙ of_right m k ds less is high

  in_left : (m : ℕ) (ds : List (List ℕ)) (known : Bool) (k : ℕ) → length ds ≤ 2 ^ 64 → 0 < m → m < length ds → IsLeftSize (length ds) k → m ≤ k → subproof hash m ds known ≡ subproof hash m (take k ds) known ++ tree_hash hash (drop k ds) ∷ []
  in_left m ds true k few pos less size low = left_known m k size.power ds few pos less (is_left_size (length ds) k (omega arith) size) size.is_power size.below low
  in_left m ds false k few pos less size low = of_left m k ds pos less (is_left_size (length ds) k (omega arith) size) low

  in_right : (m : ℕ) (ds : List (List ℕ)) (known : Bool) (k : ℕ) → length ds ≤ 2 ^ 64 → m < length ds → IsLeftSize (length ds) k → k < m → subproof hash m ds known ≡ subproof hash (m - k) (drop k ds) false ++ tree_hash hash (take k ds) ∷ []
  in_right m ds true k few less size high =
      let twice = pow-succ' 2 size.power in
      let is = size.is_power in
      let largest = size.largest in
      right_known m k size.power ds few less (is_left_size (length ds) k (omega arith) size) is (omega arith) high
  in_right m ds false k few less size high = of_right m k ds less (is_left_size (length ds) k (omega arith) size) high

  pub is_subproof : IsSubproof hash (subproof hash)
  is_subproof = record {
    known = λ ds. known_all (length ds) ds refl;
    whole = λ ds some. of_whole (length ds) ds some (omega arith);
    in_left = in_left;
    in_right = in_right;
  }

  pub proof_none : (m : ℕ) (ds : List (List ℕ)) → m ≡ 0 → consistency_proof hash m ds ≡ []
  proof_none m ds none = rw (is_equal m 0 none) refl

  pub proof_some : (m : ℕ) (ds : List (List ℕ)) → 0 < m → consistency_proof hash m ds ≡ subproof hash m ds true
  proof_some m ds pos = rw (not_equal m 0 (λ none. omega arith)) refl
