-- What the trees of a registry prove, as texts.
use Rattle.std.proofs.Common.{◌≡◌, ◌<◌, ◌≤◌, ◌⊎◌, ℕ, List, Option, Some, None, Result, Ok, Err, IfOk, inl, inr, sym, ◌∙◌, ap, subst, arith}
use Rattle.std.specs.Prelude.{◌↔◌, IfErr, IfSome, IsSome, IsSomeAnd, length, take}
use Rattle.std.proofs.lemmas.Bool.{false≢true}
use Rattle.sha2.specs.Sha256.{sha256}
use Rattle.warg_log_records.specs.declared.record_id.RecordId.{RecordId}
use Rattle.warg_registry.specs.PrefixEncodings.{log_leaf_encoding_of}
use Rattle.warg_registry.specs.declared.leaf.LogLeaf.{LogLeaf}
use Rattle.warg_registry.specs.declared.log_id.LogId.{LogId}
use Rattle.warg_merkle.specs.Trees.{tree_hash, Includes}
use Rattle.warg_merkle.specs.Extensions.{IsConsistent}
use Rattle.warg_transparency.specs.RegistryTrees.{HeadIs, IsMapRoot, ProvesBeginning, ProvesHead, ProvesLeaf, entries_of}
use Rattle.warg_transparency.specs.Texts.{log_proof_of, log_proof_text}
use Rattle.warg_c.specs.Registries.{ShowsHead, TellsConsistency, TellsInclusion}
use Rattle.warg_c.specs.Texts.{Always, ErrorsAs}
use Rattle.warg_c.specs.declared.call_error.CallError.{CallError}

-- the text is that of the path, and reads as it
abbrev pub IsPathText : List (List ℕ) → List ℕ → Type 0
IsPathText path text = (text ≡ log_proof_text path) × (log_proof_of text ≡ Ok path)

tells_inclusion : (leaves : List LogLeaf) (place : ℕ) (path : List (List ℕ)) (text : List ℕ) → ProvesLeaf leaves place path → IsPathText path text → TellsInclusion leaves place text
tells_inclusion leaves place path text proves is = record {
  leaf = proves.leaf;
  at_place = proves.at_index;
  text_is = is.0 ∙ ap log_proof_text proves.own;
  reads_back = is.1 ∙ ap (λ p. Ok p) proves.own;
  shows = subst (λ p. Includes sha256 (log_leaf_encoding_of proves.leaf) place (length leaves) p (tree_hash sha256 (entries_of leaves))) proves.own proves.includes;
}

tells_consistency : (leaves : List LogLeaf) (first : ℕ) (path : List (List ℕ)) (text : List ℕ) → ProvesBeginning leaves first path → IsPathText path text → TellsConsistency leaves first text
tells_consistency leaves first path text proves is = record {
  text_is = is.0 ∙ ap log_proof_text proves.own;
  reads_back = is.1 ∙ ap (λ p. Ok p) proves.own;
  shows = subst (λ p. IsConsistent sha256 first (length leaves) p (tree_hash sha256 (entries_of (take first leaves))) (tree_hash sha256 (entries_of leaves))) proves.own proves.goes_on;
}

-- the same of what a call gives
module _ {V E : Type 0} (items : V → List ℕ) where
  pub inclusion_told : (leaves : List LogLeaf) (place : ℕ) (found : Option (List (List ℕ))) (r : Result V E) → IfSome found (ProvesLeaf leaves place) → IfOk r (λ v. IsSomeAnd found (λ path. IsPathText path (items v))) → IfOk r (λ v. TellsInclusion leaves place (items v))
  inclusion_told leaves place (Some path) (Ok v) proves is = tells_inclusion leaves place path (items v) proves is
  inclusion_told leaves place None (Ok v) proves is = absurd is
  inclusion_told leaves place found (Err f) proves is = tt

  pub consistency_told : (leaves : List LogLeaf) (first : ℕ) (found : Option (List (List ℕ))) (r : Result V E) → IfSome found (ProvesBeginning leaves first) → IfOk r (λ v. IsSomeAnd found (λ path. IsPathText path (items v))) → IfOk r (λ v. TellsConsistency leaves first (items v))
  consistency_told leaves first (Some path) (Ok v) proves is = tells_consistency leaves first path (items v) proves is
  consistency_told leaves first None (Ok v) proves is = absurd is
  consistency_told leaves first found (Err f) proves is = tt

-- where there is a proof, only memory can be missing
found_none : {T : Type 0} (Within : Type 0) (found : Option T) → found ≡ None → IsSome found ↔ Within → Within → ⊥
found_none Within None none some within = false≢true (some.1 within)
found_none Within (Some x) none some within = cc

one_error : {T : Type 0} (Within Past : Type 0) (found : Option T) (f : CallError) → IsSome found ↔ Within → Within → ErrorsAs Always (found ≡ None) ⊥ f → ErrorsAs Within Past ⊥ f
one_error Within Past found f some within (inl (is, takes)) = inl (is, within)
one_error Within Past found f some within (inr (inl (is, none))) = absurd (found_none Within found none some within)
one_error Within Past found f some within (inr (inr (is, never))) = absurd never

pub only_memory : {T V : Type 0} (Within Past : Type 0) (found : Option T) (r : Result V CallError) → IsSome found ↔ Within → Within → IfErr r (ErrorsAs Always (found ≡ None) ⊥) → IfErr r (ErrorsAs Within Past ⊥)
only_memory Within Past found (Ok v) some within errors = tt
only_memory Within Past found (Err f) some within errors = one_error Within Past found f some within errors

-- the path shows the head that there is, or that there is none
pub shows_head : (leaves : List LogLeaf) (log_id : LogId) (head : Option RecordId) (path : List (List ℕ)) → HeadIs leaves log_id head → ProvesHead leaves log_id path → (root : List ℕ) → IsMapRoot leaves root → ShowsHead log_id head path root
shows_head leaves log_id (Some record_id) path is proves root of = proves.presence record_id root is of
shows_head leaves log_id None path is proves root of = proves.absence root is of
