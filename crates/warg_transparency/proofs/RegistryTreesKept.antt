-- The trees after a leaf was pushed, and after one was refused.
use Rattle.std.proofs.Common.{◌≡◌, ◌+◌, ◌-◌, ◌<◌, ℕ, List, [], ◌∷◌, ◌++◌, get_or, length, map, take, Option, sym, ◌∙◌, ap, subst, arith}
use Rattle.std.proofs.lemmas.List.{length_push, map_push, take_at, take_more}
use Rattle.std.proofs.lemmas.List.Elements.{All-push}
use Rattle.sha2.specs.Sha256.{sha256}
use Rattle.warg_registry.specs.PrefixEncodings.{log_leaf_encoding_of, map_leaf_encoding_of}
use Rattle.warg_registry.specs.declared.leaf.LogLeaf.{LogLeaf}
use Rattle.warg_merkle.specs.Trees.{Side, leaf_input}
use Rattle.warg_merkle.specs.MerkleLog.Logs.{leaf_hashes}
use Rattle.warg_merkle.specs.SparseTree.Nodes.{Sets}
use Rattle.warg_transparency.specs.Heads.{head_leaf}
use Rattle.warg_transparency.specs.MapTree.{way_of}
use Rattle.warg_transparency.specs.RegistryTrees.{AreTreesOf, HasHashes, IsMapOf, entries_of}
use Rattle.warg_transparency.proofs.RegistryLemmas.{pushed}

abbrev leaf_hash : List ℕ → List ℕ
leaf_hash d = sha256 (leaf_input d)

-- the hashes of one leaf more
pub more_hashes : (leaves : List LogLeaf) (leaf : LogLeaf) → leaf_hashes sha256 (entries_of leaves) ++ leaf_hash (log_leaf_encoding_of leaf) ∷ [] ≡ leaf_hashes sha256 (entries_of (leaves ++ leaf ∷ []))
more_hashes leaves leaf = sym (ap (map leaf_hash) (map_push log_leaf_encoding_of leaves leaf) ∙ map_push leaf_hash (entries_of leaves) (log_leaf_encoding_of leaf))

-- the hashes of one leaf more of a list
pub log_more : (leaves : List LogLeaf) (at : ℕ) (d : LogLeaf) (log more : List (List ℕ)) → at < length leaves → log ≡ leaf_hashes sha256 (entries_of (take at leaves)) → more ≡ log ++ leaf_hash (log_leaf_encoding_of (get_or leaves at d)) ∷ []
    → more ≡ leaf_hashes sha256 (entries_of (take (at + 1) leaves))
log_more leaves at d log more below is is_more =
    is_more ∙ ap (λ hs. hs ++ leaf_hash (log_leaf_encoding_of (get_or leaves at d)) ∷ []) is ∙ more_hashes (take at leaves) (get_or leaves at d) ∙ ap (λ ls. leaf_hashes sha256 (entries_of ls)) (sym (take_more leaves at d below))

module _ (leaves new : List LogLeaf) (leaf : LogLeaf) (log pushed_log : List (List ℕ)) (m n : List Side → Option (List ℕ)) (are : AreTreesOf leaves log m) (is_pushed : pushed_log ≡ log ++ leaf_hash (log_leaf_encoding_of leaf) ∷ []) where
  pub trees_pushed : HasHashes leaf → new ≡ leaves ++ leaf ∷ [] → Sets m n (way_of leaf.log_id) (map_leaf_encoding_of (head_leaf leaf.record_id)) → AreTreesOf new pushed_log n
  trees_pushed is is_new sets = subst (λ ls. AreTreesOf ls pushed_log n) (sym is_new) record {
    hashes = All-push HasHashes leaves leaf are.hashes is;
    is_log = is_pushed ∙ ap (λ hs. hs ++ leaf_hash (log_leaf_encoding_of leaf) ∷ []) are.is_log ∙ more_hashes leaves leaf;
    is_map = pushed leaves leaf m n are.hashes is are.is_map sets;
  }

  pub trees_kept : (popped : List (List ℕ)) → new ≡ leaves → popped ≡ take (length pushed_log - 1) pushed_log → ((way : List Side) → n way ≡ m way) → AreTreesOf new popped n
  trees_kept popped is_new is_popped same =
      let hash : List ℕ = leaf_hash (log_leaf_encoding_of leaf) in
      let long : length (log ++ hash ∷ []) - 1 ≡ length log = omega (arith, length_push log hash) in
      let back : popped ≡ log = is_popped ∙ ap (λ hs. take (length hs - 1) hs) is_pushed ∙ ap (λ k. take k (log ++ hash ∷ [])) long ∙ take_at log (hash ∷ []) (length log) (omega arith) in
      let one : m ≡ n = λ i way. sym (same way) i in
      subst (λ ls. AreTreesOf ls popped n) (sym is_new) record { hashes = are.hashes; is_log = back ∙ are.is_log; is_map = subst (IsMapOf leaves) one are.is_map }
