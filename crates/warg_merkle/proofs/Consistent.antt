-- What an accepted consistency proof says, and that each tree's own is accepted.
use Rattle.std.proofs.Common.{◌≡◌, ◌≢◌, ◌⊎◌, ℕ, zero, suc, ◌-◌, ◌^◌, ◌<◌, ◌≤◌, ◌==◌, Bool, true, false, if◌then◌else◌, List, [], ◌∷◌, length, take, drop, inl, inr, refl, sym, ◌∙◌, ap, arith}
use Rattle.std.specs.List.{All}
use Rattle.std.proofs.lemmas.Bool.{cases_lt, cases_eq}
use Rattle.std.proofs.lemmas.List.{take_all}
use Rattle.warg_merkle.specs.Trees.{tree_hash}
use Rattle.warg_merkle.specs.Extensions.{start_index, with_start, extension, consistency_path, consistency_proof, ExtendsNone, ExtendsAll, Extends, IsConsistent, IsBeginning, OwnPathsExtend}
use Rattle.warg_merkle.proofs.Paths.{root_empty}
use Rattle.warg_merkle.proofs.Extending.{own_extension_or_collision}
use Rattle.warg_merkle.proofs.ExtensionPaths.{own_path_extends}
use Rattle.warg_merkle.proofs.Subproofs.{known_some, known_all, proof_none, proof_some}

-- the path without the old root
taken_back : (b : Bool) (ext : List (List ℕ)) (old : List ℕ) (path : List (List ℕ)) → ext ≡ (if b then old ∷ path else path) → (if b then drop 1 ext else ext) ≡ path
taken_back true ext old path e = ap (drop 1) e
taken_back false ext old path e = e

module _ (hash : List ℕ → List ℕ) where
  proof_between : (first : ℕ) (ds : List (List ℕ)) → 0 < first → first < length ds → consistency_proof hash first ds ≡ consistency_path hash first ds
  proof_between first ds some more = proof_some hash first ds some ∙ known_some hash first ds (λ same. omega arith)

  proof_all : (first : ℕ) (ds : List (List ℕ)) → 0 < first → first ≡ length ds → consistency_proof hash first ds ≡ []
  proof_all first ds some all = proof_some hash first ds some ∙ known_all hash first ds all

  root_of_none : (first : ℕ) (ds : List (List ℕ)) → first ≡ 0 → tree_hash hash (take first ds) ≡ hash []
  root_of_none first ds none = ap (λ n. tree_hash hash (take n ds)) none ∙ root_empty hash

  root_of_all : (first : ℕ) (ds : List (List ℕ)) → first ≡ length ds → tree_hash hash (take first ds) ≡ tree_hash hash ds
  root_of_all first ds all = ap (tree_hash hash) (take_all first ds (omega arith))

  pub own_paths_extend : OwnPathsExtend hash
  own_paths_extend first ds inside few = elim (cases_lt 0 first) [
    | inr most ↦
        let none : first ≡ 0 = omega arith in
        inl record { none = none; no_path = proof_none hash first ds none; root = root_of_none first ds none; same = root_of_all first ds }
    | inl some ↦ elim (cases_eq first (length ds)) [
      | inl all ↦ inr (inl record { some = some; all = all; no_path = proof_all first ds some all; same = root_of_all first ds all })
      | inr differ ↦
          let more : first < length ds = omega arith in
          let path = proof_between first ds some more in
          let own = own_path_extends hash first ds some more few in
          inr (inr (let P : List (List ℕ) → Type 0 = λ ps. Extends hash first (length ds) ps (tree_hash hash (take first ds)) (tree_hash hash ds) in rw path own))
    ]
  ]

  pub consistent_or_collision : ((m : List ℕ) → length (hash m) ≡ 32) → (first size : ℕ) (path : List (List ℕ)) (old new : List ℕ) → All (λ p. length p ≡ 32) (with_start hash first old path) → size ≤ 2 ^ 64 → IsConsistent hash first size path old new → (ds : List (List ℕ)) → length ds ≡ size → tree_hash hash ds ≡ new → IsBeginning hash ds first path old
  consistent_or_collision long first size path old new hp most (inl none) ds same of_new =
      inl (root_of_none first ds none.none ∙ sym none.root, proof_none hash first ds none.none ∙ sym none.no_path)
  consistent_or_collision long first size path old new hp most (inr (inl whole)) ds same of_new =
      let all : first ≡ length ds = whole.all ∙ sym same in
      inl (root_of_all first ds all ∙ of_new ∙ sym whole.same, proof_all first ds whole.some all ∙ sym whole.no_path)
  consistent_or_collision long first size path old new hp most (inr (inr extends)) ds same of_new =
      let more : first < length ds = let less = extends.more in omega arith in
      elim (own_extension_or_collision hash long first size path old new hp most extends ds same of_new) [
        | inr found ↦ inr found
        | inl (root, own) ↦ inl (root, proof_between first ds extends.some more ∙ taken_back (start_index 64 (first - 1) == 0) (extension hash first ds) old path own)
      ]
