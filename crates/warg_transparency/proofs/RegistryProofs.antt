-- The proofs of a log, in the words of its leaves.
use Rattle.std.proofs.Common.{◌≡◌, ◌<◌, ◌≤◌, ℕ, List, [], length, take, get_or, Option, Some, None, Result, Ok, Err, IfOk, inl, inr, sym, ◌∙◌, ap, subst, arith}
use Rattle.std.specs.Prelude.{◌↔◌, IsSome, IfSome}
use Rattle.std.proofs.lemmas.List.{length-map, take-map, get_or-map}
use Rattle.std.proofs.lemmas.Option.{slice_get_cases}
use Rattle.sha2.specs.Sha256.{sha256}
use Rattle.warg_registry.specs.PrefixEncodings.{log_leaf_encoding_of}
use Rattle.warg_registry.specs.declared.leaf.LogLeaf.{LogLeaf}
use Rattle.warg_merkle.specs.Trees.{inclusion_path, leaf_input, tree_hash, Includes}
use Rattle.warg_merkle.specs.Extensions.{consistency_proof, IsConsistent}
use Rattle.warg_merkle.specs.MerkleLog.Logs.{leaf_hashes, ForLeaves}
use Rattle.warg_transparency.specs.RegistryTrees.{ProvesBeginning, ProvesLeaf, entries_of}

-- as many leaves as hashes
pub length-log : (leaves : List LogLeaf) (log : List (List ℕ)) → log ≡ leaf_hashes sha256 (entries_of leaves) → length log ≡ length leaves
length-log leaves log is = ap length is ∙ length-map (entries_of leaves) (λ d. sha256 (leaf_input d)) ∙ length-map leaves log_leaf_encoding_of

module _ (leaves : List LogLeaf) (index : ℕ) where
  entry_count : length (entries_of leaves) ≡ length leaves
  entry_count = length-map leaves log_leaf_encoding_of

  proves_at : (path : List (List ℕ)) → path ≡ inclusion_path sha256 index (entries_of leaves)
      → Includes sha256 (get_or (entries_of leaves) index []) index (length (entries_of leaves)) path (tree_hash sha256 (entries_of leaves))
      → ProvesLeaf leaves index path
  proves_at path own includes = elim (slice_get_cases leaves index).1 [
    | inl (leaf, inside, there, read) ↦
        let entry : get_or (entries_of leaves) index [] ≡ log_leaf_encoding_of leaf = get_or-map log_leaf_encoding_of leaves index leaf [] inside ∙ ap log_leaf_encoding_of read in
        record {
          leaf = leaf;
          at_index = there;
          own = own;
          includes = subst (λ n. Includes sha256 (log_leaf_encoding_of leaf) index n path (tree_hash sha256 (entries_of leaves))) entry_count
              (subst (λ d. Includes sha256 d index (length (entries_of leaves)) path (tree_hash sha256 (entries_of leaves))) entry includes);
        }
    | inr (past, none) ↦ let inside = includes.in_tree in let count = entry_count in absurd (omega arith)
  ]

  goes_on_from : (path : List (List ℕ)) → IsConsistent sha256 index (length (entries_of leaves)) path (tree_hash sha256 (take index (entries_of leaves))) (tree_hash sha256 (entries_of leaves))
      → IsConsistent sha256 index (length leaves) path (tree_hash sha256 (entries_of (take index leaves))) (tree_hash sha256 (entries_of leaves))
  goes_on_from path verifies =
      subst (λ n. IsConsistent sha256 index n path (tree_hash sha256 (entries_of (take index leaves))) (tree_hash sha256 (entries_of leaves))) entry_count
      (subst (λ es. IsConsistent sha256 index (length (entries_of leaves)) path (tree_hash sha256 es) (tree_hash sha256 (entries_of leaves))) (take-map log_leaf_encoding_of index leaves) verifies)

module _ {E : Type 0} (leaves : List LogLeaf) (log : List (List ℕ)) (is_log : log ≡ leaf_hashes sha256 (entries_of leaves)) (index : ℕ) where
  pub some_within : (r : Result (Option (List (List ℕ))) E) → IfOk r (λ found. IsSome found ↔ (index < length log)) → IfOk r (λ found. IsSome found ↔ (index < length leaves))
  some_within (Ok found) some = let long = length-log leaves log is_log in ((λ is. subst (λ n. index < n) long (some.0 is)), (λ less. some.1 (subst (λ n. index < n) (sym long) less)))
  some_within (Err e) some = tt

  pub some_up_to : (r : Result (Option (List (List ℕ))) E) → IfOk r (λ found. IsSome found ↔ (index ≤ length log)) → IfOk r (λ found. IsSome found ↔ (index ≤ length leaves))
  some_up_to (Ok found) some = let long = length-log leaves log is_log in ((λ is. subst (λ n. index ≤ n) long (some.0 is)), (λ less. some.1 (subst (λ n. index ≤ n) (sym long) less)))
  some_up_to (Err e) some = tt

  pub proves_leaf : (r : Result (Option (List (List ℕ))) E)
      → ForLeaves sha256 log (λ entries. IfOk r (λ found. IfSome found (λ path. path ≡ inclusion_path sha256 index entries)))
      → ForLeaves sha256 log (λ entries. IfOk r (λ found. IfSome found (λ path. Includes sha256 (get_or entries index []) index (length entries) path (tree_hash sha256 entries))))
      → IfOk r (λ found. IfSome found (ProvesLeaf leaves index))
  proves_leaf (Ok (Some path)) own verifies = proves_at leaves index path (own (entries_of leaves) (sym is_log)) (verifies (entries_of leaves) (sym is_log))
  proves_leaf (Ok None) own verifies = tt
  proves_leaf (Err e) own verifies = tt

  pub proves_beginning : (r : Result (Option (List (List ℕ))) E)
      → ForLeaves sha256 log (λ entries. IfOk r (λ found. IfSome found (λ path. path ≡ consistency_proof sha256 index entries)))
      → ForLeaves sha256 log (λ entries. IfOk r (λ found. IfSome found (λ path. IsConsistent sha256 index (length entries) path (tree_hash sha256 (take index entries)) (tree_hash sha256 entries))))
      → IfOk r (λ found. IfSome found (ProvesBeginning leaves index))
  proves_beginning (Ok (Some path)) own verifies = record { own = own (entries_of leaves) (sym is_log); goes_on = goes_on_from leaves index path (verifies (entries_of leaves) (sym is_log)) }
  proves_beginning (Ok None) own verifies = tt
  proves_beginning (Err e) own verifies = tt
