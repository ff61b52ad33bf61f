-- What words ask of a registry, and what its log and map answer.
use Rattle.std.proofs.Common.{◌≡◌, ◌⊎◌, ◌↔◌, inl, inr, ℕ, nat_le, nat_lt, Bool, false, if◌then◌else◌, List, length, map, refl, sym, ap, subst, ◌∙◌, Option, Some, None, IfSome, IsSome, Result, Ok, Err, IfOk}
use Rattle.std.specs.Prelude.{◌<◌, ◌≤◌}
use Rattle.std.proofs.lemmas.Bool.{cases_lt, cond-false, cond-true, cond_above, cond_below, false≢true, le-leb, lt-leb}
use Rattle.std.proofs.lemmas.List.{length-map}
use Rattle.serde_json.specs.Data.{Data}
use Rattle.serde_json.specs.Written.{compact_text, has_float}
use Rattle.sha2.specs.Sha256.{sha256}
use Rattle.warg_crypto.specs.declared.json.error.JsonError.TheVariants.{OutOfMemory}
use Rattle.warg_crypto.specs.declared.json.error.JsonError.{JsonError}
use Rattle.warg_saved_states.specs.Texts.{text_of}
use Rattle.warg_merkle.specs.SparseMap.Maps.{map_root}
use Rattle.warg_merkle.specs.Extensions.{consistency_proof}
use Rattle.warg_merkle.specs.Trees.{Side, inclusion_path, leaf_input, tree_hash}
use Rattle.warg_audit.specs.Files.OutputData.{OutputData}
use Rattle.warg_registry.specs.RegistryJson.{checkpoint_json}
use Rattle.warg_registry.specs.declared.checkpoint.Checkpoint.{Checkpoint}
use Rattle.warg_registry.specs.declared.leaf.LogLeaf.{LogLeaf}
use Rattle.warg_audit.specs.Files.Answers.{IfOutput, IsUnusable}
use Rattle.tool_checkpoints.specs.ProofTexts.{IsByLeaves, IsConsistencyText, IsInclusionText, LogProofReadsBack, ShowsBeginning, ShowsEntry, consistency_of, inclusion_of, no_leaf}
use Rattle.tool_checkpoints.specs.Proofs.{log_proof_line}
use Rattle.tool_checkpoints.specs.RegistryLeaves.{HasNoLeaf, IsCheckpointOf, IsRegistryOf, entries_of}
use Rattle.warg_audit.specs.declared.files.command_error.CommandError.{CommandError}
use Rattle.warg_audit.proofs.FilesLemmas.AnswerLemmas.{IfOutput-to}

-- ---- leaves

pub leaves_unread : (P : List LogLeaf → OutputData → Type 0) (lines : List (List ℕ)) (end : CommandError)
    → IfOutput (λ printed. HasNoLeaf lines × IsUnusable printed) end → IfOutput (IsByLeaves P lines) end
leaves_unread P lines end h =
    IfOutput-to (λ printed. HasNoLeaf lines × IsUnusable printed) (IsByLeaves P lines) (λ printed it. no_leaf it.0 it.1) end h

-- ---- checkpoints

-- whether what is written has a float
abbrev float_of : Result Data JsonError → Bool
float_of (Ok d) = has_float d
float_of (Err e) = false

no_float : (checkpoint : Checkpoint) (d : Data) → checkpoint_json checkpoint ≡ Ok d → has_float d ≡ false
no_float checkpoint d e = sym (ap float_of e)

text_is : (r : Result Data JsonError) (d : Data) (text : List ℕ) → r ≡ Ok d → text ≡ compact_text d → text_of r ≡ Ok text
text_is r d text e is = ap text_of e ∙ ap Ok (sym is)

pub checkpoint_written : (checkpoint : Checkpoint) (d : Data) (text : List ℕ) → checkpoint_json checkpoint ≡ Ok d
    → (has_float d ≡ false → text ≡ compact_text d) → text_of (checkpoint_json checkpoint) ≡ Ok text
checkpoint_written checkpoint d text e is = text_is (checkpoint_json checkpoint) d text e (is (no_float checkpoint d e))

pub text_refused : (r : Result Data JsonError) (fault : JsonError) → (fault ≡ OutOfMemory) ⊎ (r ≡ Err fault)
    → (fault ≡ OutOfMemory) ⊎ (text_of r ≡ Err fault)
text_refused r fault (inl memory) = inl memory
text_refused r fault (inr e) = inr (ap text_of e)

-- the hash of a leaf of the log
abbrev hash_of : List ℕ → List ℕ
hash_of entry = sha256 (leaf_input entry)

module _ (leaves : List LogLeaf) (hashes : List (List ℕ)) (m : List Side → Option (List ℕ)) (registry : IsRegistryOf leaves hashes m) where
  -- as many hashes as entries
  as_many : length hashes ≡ length (entries_of leaves)
  as_many = ap length registry.log ∙ length-map (entries_of leaves) hash_of

  pub checkpoint_stands : (checkpoint : Checkpoint)
      → ((entries : List (List ℕ)) → map hash_of entries ≡ hashes → checkpoint.log_root.bytes ≡ tree_hash sha256 entries)
      → checkpoint.log_length ≡ length hashes → checkpoint.map_root.bytes ≡ map_root sha256 256 m → IsCheckpointOf leaves checkpoint
  checkpoint_stands checkpoint root long of_map = record {
    log = record { size = sym (long ∙ as_many); root = sym (root (entries_of leaves) (sym registry.log)) };
    m = m;
    heads = registry.heads;
    root = of_map;
  }

-- ---- proofs on the log

past : (a b : ℕ) → (a < b → ⊥) → b ≤ a
past a b never = elim (cases_lt a b) [
  | inl less ↦ absurd (never less)
  | inr more ↦ more
]

beyond : (a b : ℕ) → (a ≤ b → ⊥) → b < a
beyond a b never = elim (cases_lt b a) [
  | inl less ↦ less
  | inr more ↦ absurd (never more)
]

module _ (path : List (List ℕ)) (n : ℕ) where
  found_below : (found : Option (List (List ℕ))) (index : ℕ) → (IsSome found ↔ (index < n)) → IfSome found (λ proof. proof ≡ path)
      → found ≡ (if nat_lt index n then Some path else None)
  found_below (Some proof) index is_some is = ap Some is ∙ cond_below index n (Some path) None (is_some.0 refl)
  found_below None index is_some is = cond_above index n (Some path) None None (past index n (λ below. false≢true (is_some.1 below))) refl

  found_within : (found : Option (List (List ℕ))) (first : ℕ) → (IsSome found ↔ (first ≤ n)) → IfSome found (λ proof. proof ≡ path)
      → found ≡ (if nat_le first n then Some path else None)
  found_within (Some proof) first is_some is = ap Some is ∙ sym (cond-true (nat_le first n) (Some path) None (le-leb first n (is_some.0 refl)))
  found_within None first is_some is =
      sym (cond-false (nat_le first n) (Some path) None (lt-leb first n (beyond first n (λ within. false≢true (is_some.1 within)))))

module _ (leaves : List LogLeaf) (hashes : List (List ℕ)) (m : List Side → Option (List ℕ)) (registry : IsRegistryOf leaves hashes m)
    (found : Option (List (List ℕ))) (printed : OutputData) (is : printed ≡ log_proof_line found) (reads : IfSome found LogProofReadsBack) where
  pub inclusion_text : (index : ℕ) → (IsSome found ↔ (index < length hashes))
      → IfSome found (λ proof. proof ≡ inclusion_path sha256 index (entries_of leaves))
      → IfSome found (ShowsEntry index (entries_of leaves)) → IsInclusionText index leaves printed
  inclusion_text index is_some path shows =
      let entries = entries_of leaves in
      let some : IsSome found ↔ (index < length entries) =
      subst (λ (n : ℕ). IsSome found ↔ (index < n)) (as_many leaves hashes m registry) is_some in
      let e : found ≡ inclusion_of index entries = found_below (inclusion_path sha256 index entries) (length entries) found index some path in
      record {
        is = is ∙ ap log_proof_line e;
        shows = subst (λ (it : Option (List (List ℕ))). IfSome it (ShowsEntry index entries)) e shows;
        reads_back = subst (λ (it : Option (List (List ℕ))). IfSome it LogProofReadsBack) e reads;
      }

  pub consistency_text : (first : ℕ) → (IsSome found ↔ (first ≤ length hashes))
      → IfSome found (λ proof. proof ≡ consistency_proof sha256 first (entries_of leaves))
      → IfSome found (ShowsBeginning first (entries_of leaves)) → IsConsistencyText first leaves printed
  consistency_text first is_some path shows =
      let entries = entries_of leaves in
      let some : IsSome found ↔ (first ≤ length entries) =
      subst (λ (n : ℕ). IsSome found ↔ (first ≤ n)) (as_many leaves hashes m registry) is_some in
      let e : found ≡ consistency_of first entries = found_within (consistency_proof sha256 first entries) (length entries) found first some path in
      record {
        is = is ∙ ap log_proof_line e;
        shows = subst (λ (it : Option (List (List ℕ))). IfSome it (ShowsBeginning first entries)) e shows;
        reads_back = subst (λ (it : Option (List (List ℕ))). IfSome it LogProofReadsBack) e reads;
      }

-- ---- what two clauses say of one result

pub both_ok : {T E : Type 0} (P Q R : T → Type 0) (result : Result T E) → IfOk result P → IfOk result Q
    → ((value : T) → P value → Q value → R value) → IfOk result R
both_ok P Q R (Ok value) p q f = f value p q
both_ok P Q R (Err error) p q f = tt
