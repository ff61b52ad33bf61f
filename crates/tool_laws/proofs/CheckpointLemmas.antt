-- What is answered of a registry's checkpoints.
use Rattle.std.proofs.Common.{◌≡◌, ◌<◌, ℕ, Bool, true, false, ◌||◌, List, [], ◌∷◌, ◌++◌, codes, length, Option, Some, None, refl, sym, subst, inl, inr, arith}
use Rattle.std.specs.Prelude.{◌==◌, if◌then◌else◌, nat_le, nat_lt}
use Rattle.std.specs.Fmt.{decimal}
use Rattle.std.proofs.lemmas.Bool.Decides.{nat_tests}
use Rattle.json.specs.Print.{escape, escape_byte, quoted}
use Rattle.serde_json.specs.Data.{member, no_members, number, object, string, unsigned}
use Rattle.serde_json.specs.Written.{compact_text}
use Rattle.sha2.specs.Sha256.{sha256}
use Rattle.warg_crypto.specs.HashText.{hash_text, sha256_hash_of}
use Rattle.warg_audit.specs.Files.Files.{Files}
use Rattle.warg_audit.specs.Files.OutputData.{OutputData}
use Rattle.warg_registry.specs.RegistryJson.{checkpoint_json}
use Rattle.warg_registry.specs.declared.checkpoint.Checkpoint.{Checkpoint}
use Rattle.warg_registry.specs.declared.leaf.LogLeaf.{LogLeaf}
use Rattle.warg_registry.specs.declared.log_id.LogId.{LogId}
use Rattle.warg_saved_states.specs.Texts.{text_of}
use Rattle.warg_transparency.specs.MapTree.{way_of}
use Rattle.warg_transparency.specs.Texts.{log_proof_text, map_proof_text}
use Rattle.tool_checkpoints.specs.LogIdTexts.{IsLogIdAnswer, id_line}
use Rattle.tool_checkpoints.specs.ProofTexts.{IsByLeaves, IsCheckpointText, IsConsistencyText, IsHeadText, IsInclusionText, IsProofAnswer, IsProved, checkpoint_line, consistency_of, inclusion_of, no_leaf, of_leaves}
use Rattle.tool_checkpoints.specs.Proofs.{IsAbsenceVerdict, IsConsistencyVerdict, IsHeadVerdict, IsInclusionVerdict, IsStatementVerdict, IsVerdict, log_proof_line, map_proof_line}
use Rattle.tool_checkpoints.specs.RegistryLeaves.{entries_of}
use Rattle.tool_words.specs.declared.statement.NamedLog.{NamedLog}
use Rattle.tool_words.specs.declared.statement.Statement.{Statement}
use Rattle.tool_words.specs.declared.statement.Statement.TheVariants as statement
use Rattle.tool_words.specs.declared.statement.Wanted.{Wanted}
use Rattle.tool_words.specs.declared.statement.Wanted.TheVariants as wanted
use Rattle.warg_merkle.specs.Extensions.{consistency_proof}
use Rattle.warg_merkle.specs.Trees.{inclusion_path}
use Rattle.tool_laws.specs.Plain.Plain.{AreBytes, is_plain, is_sign}
use Rattle.tool_laws.proofs.PlainLemmas.ByteLemmas.{sha256_bytes}
use Rattle.tool_laws.proofs.PlainLemmas.PlainLemmas.{and_first, and_then, plain_append, plain_cons}
use Rattle.tool_laws.proofs.PlainLemmas.WordLemmas.{decimal_plain, hash_plain}
use Rattle.warg_printable.specs.Lines.{IsPrintedText}
use Rattle.tool_laws.proofs.FileLemmas.{by_file_clean, lines_clean, silent_clean, words_clean}
use Rattle.tool_laws.proofs.LineLemmas.{IsClean, clean_line, clean_same, line_text, plain_line}
use Rattle.tool_laws.proofs.ProofLemmas.{AllBytes, consistency_bytes, inclusion_bytes, log_proof_plain, map_proof_plain, root_bytes, tree_bytes, way_bytes}

-- ---- ids of logs

-- the id of a log by its name
pub log_id_clean : (log : NamedLog) (printed : OutputData) → IsLogIdAnswer log printed → IsClean printed
log_id_clean log printed h =
    words_clean printed h (λ message hashes is.
    clean_line printed (id_line message) is
    (plain_line (hash_text (sha256_hash_of message)) (hash_plain (sha256_hash_of message) (sha256_bytes message))))

-- ---- statements

verdict_clean : (S : Type 0) (printed : OutputData) → IsVerdict S printed → IsClean printed
verdict_clean S printed (inl h) = clean_line printed _ h.1 (plain_line (codes "holds") refl)
verdict_clean S printed (inr h) = clean_line printed _ h.1 (plain_line (codes "does not hold") refl)

module _ (files : Option Files) where
  inclusion_said : (checkpoint place log_id record_id proof : List ℕ) (printed : OutputData)
      → IsInclusionVerdict files checkpoint place log_id record_id proof printed → IsClean printed
  inclusion_said checkpoint place log_id record_id proof printed h =
      words_clean printed h (λ leaf is_leaf by_leaf.
      words_clean printed by_leaf (λ index is_index by_place.
      by_file_clean files checkpoint printed by_place (λ view by_view.
      by_file_clean files proof printed by_view (λ hashes. verdict_clean _ printed))))

  consistency_said : (old new proof : List ℕ) (printed : OutputData) → IsConsistencyVerdict files old new proof printed → IsClean printed
  consistency_said old new proof printed h =
      by_file_clean files old printed h (λ before by_old.
      by_file_clean files new printed by_old (λ after by_both.
      by_file_clean files proof printed by_both (λ hashes. verdict_clean _ printed)))

  head_said : (checkpoint log_id record_id proof : List ℕ) (printed : OutputData) → IsHeadVerdict files checkpoint log_id record_id proof printed
      → IsClean printed
  head_said checkpoint log_id record_id proof printed h =
      words_clean printed h (λ leaf is_leaf by_leaf.
      by_file_clean files checkpoint printed by_leaf (λ view by_view.
      by_file_clean files proof printed by_view (λ siblings. verdict_clean _ printed)))

  absence_said : (checkpoint log_id proof : List ℕ) (printed : OutputData) → IsAbsenceVerdict files checkpoint log_id proof printed → IsClean printed
  absence_said checkpoint log_id proof printed h =
      words_clean printed h (λ log is_log by_log.
      by_file_clean files checkpoint printed by_log (λ view by_view.
      by_file_clean files proof printed by_view (λ siblings. verdict_clean _ printed)))

  -- whether a statement holds
  pub statement_clean : (it : Statement) (printed : OutputData) → IsStatementVerdict files it printed → IsClean printed
  statement_clean (statement.Inclusion checkpoint place leaf proof) printed h =
      inclusion_said checkpoint.now place.now leaf.log_id.now leaf.record_id.now proof.now printed h
  statement_clean (statement.Consistency old new proof) printed h = consistency_said old.now new.now proof.now printed h
  statement_clean (statement.Head checkpoint leaf proof) printed h =
      head_said checkpoint.now leaf.log_id.now leaf.record_id.now proof.now printed h
  statement_clean (statement.Absence checkpoint log_id proof) printed h = absence_said checkpoint.now log_id.now proof.now printed h

-- ---- the JSON of a checkpoint

sign_low : (x c : ℕ) → is_sign x ≡ true → c < 32 → (x == c) ≡ false
sign_low x c h small = grind (arith, nat_tests)

sign_some : (x : ℕ) → is_sign x ≡ true → nat_lt 0 x ≡ true
sign_some x h = grind (arith, nat_tests)

sign_high : (x : ℕ) → is_sign x ≡ true → nat_lt x 32 ≡ false
sign_high x h = grind (arith, nat_tests)

byte_cases : (x : ℕ) → is_sign x ≡ true → (quote : Bool) → ((x == 34) || (x == 92)) ≡ quote → is_plain (escape_byte x) ≡ true
unfolding escape_byte
byte_cases x h true e = rw (e, sign_some x h) (plain_cons 92 (x ∷ []) refl (plain_cons x [] h refl))
byte_cases x h false e =
    rw (e, sign_low x 8 h (omega arith), sign_low x 12 h (omega arith), sign_low x 10 h (omega arith), sign_low x 13 h (omega arith), sign_low x 9 h (omega arith), sign_high x h)
    (plain_cons x [] h refl)

escape_plain : (text : List ℕ) → is_plain text ≡ true → is_plain (escape text) ≡ true
escape_plain [] h = refl
escape_plain (x ∷ text) h =
    plain_append (escape_byte x) (escape text) (byte_cases x (and_first (is_sign x) (is_plain text) h) ((x == 34) || (x == 92)) refl)
    (escape_plain text (and_then (is_sign x) (is_plain text) h))

quoted_plain : (text : List ℕ) → is_plain text ≡ true → is_plain (quoted text) ≡ true
quoted_plain text h = plain_cons 34 (escape text ++ 34 ∷ []) refl (plain_append (escape text) (34 ∷ []) (escape_plain text h) refl)

-- the JSON of a checkpoint of this length, with these texts of its roots
abbrev checkpoint_text : ℕ → List ℕ → List ℕ → List ℕ
checkpoint_text log_length log_root map_root =
    compact_text (object
    (member (codes "logLength") (number (unsigned log_length)) (member (codes "logRoot") (string log_root) (member (codes "mapRoot") (string map_root) no_members))))

text_plain : (log_length : ℕ) (log_root map_root : List ℕ) → is_plain log_root ≡ true → is_plain map_root ≡ true
    → is_plain (checkpoint_text log_length log_root map_root) ≡ true
unfolding escape_byte
text_plain log_length log_root map_root log_is map_is =
    let last : List ℕ = quoted map_root ++ codes "}" in
    let middle : List ℕ = quoted log_root ++ (codes ",\"mapRoot\":" ++ last) in
    let first : List ℕ = decimal log_length ++ (codes ",\"logRoot\":" ++ middle) in
    let last_plain = plain_append (quoted map_root) (codes "}") (quoted_plain map_root map_is) refl in
    let middle_plain = plain_append (quoted log_root) (codes ",\"mapRoot\":" ++ last) (quoted_plain log_root log_is)
    (plain_append (codes ",\"mapRoot\":") last refl last_plain) in
    let first_plain = plain_append (decimal log_length) (codes ",\"logRoot\":" ++ middle) (decimal_plain log_length)
    (plain_append (codes ",\"logRoot\":") middle refl middle_plain) in
    plain_append (codes "{\"logLength\":") first refl first_plain

checkpoint_clean : (it : Checkpoint) → AreBytes it.log_root.bytes → AreBytes it.map_root.bytes
    → IsPrintedText (checkpoint_line (text_of (checkpoint_json it))).text
checkpoint_clean it log map =
    let text : List ℕ = checkpoint_text it.log_length (hash_text it.log_root) (hash_text it.map_root) in
    line_text (text ++ codes "\n")
    (plain_line text (text_plain it.log_length (hash_text it.log_root) (hash_text it.map_root) (hash_plain it.log_root log) (hash_plain it.map_root map)))

-- ---- proofs

if_some_clean : (b : Bool) (hashes : List (List ℕ)) → AllBytes hashes → IsPrintedText (log_proof_line (if b then Some hashes else None)).text
if_some_clean true hashes h = line_text _ (plain_line (log_proof_text hashes) (log_proof_plain hashes h))
if_some_clean false hashes h = line_text (codes "none\n") (plain_line (codes "none") refl)

module _ (leaves : List LogLeaf) where
  checkpoint_of_clean : (printed : OutputData) → IsCheckpointText leaves printed → IsClean printed
  checkpoint_of_clean printed h =
      clean_same printed (checkpoint_line (text_of (checkpoint_json h.checkpoint))) h.is
      (checkpoint_clean h.checkpoint (subst AreBytes h.stands.log.root (tree_bytes (entries_of leaves)))
      (subst AreBytes (sym h.stands.root) (root_bytes 256 h.stands.m)))

  inclusion_clean : (index : ℕ) (printed : OutputData) → IsInclusionText index leaves printed → IsClean printed
  inclusion_clean index printed h =
      clean_same printed (log_proof_line (inclusion_of index (entries_of leaves))) h.is
      (if_some_clean (nat_lt index (length (entries_of leaves))) (inclusion_path sha256 index (entries_of leaves)) (inclusion_bytes index (entries_of leaves)))

  consistency_clean : (first : ℕ) (printed : OutputData) → IsConsistencyText first leaves printed → IsClean printed
  consistency_clean first printed h =
      clean_same printed (log_proof_line (consistency_of first (entries_of leaves))) h.is
      (if_some_clean (nat_le first (length (entries_of leaves))) (consistency_proof sha256 first (entries_of leaves)) (consistency_bytes first (entries_of leaves)))

  head_clean : (log_id : LogId) (printed : OutputData) → IsHeadText log_id leaves printed → IsClean printed
  head_clean log_id printed h =
      clean_line printed (map_proof_line h.path) h.is
      (plain_line (map_proof_text h.path) (map_proof_plain h.path (subst AllBytes (sym h.path_is) (way_bytes h.m (way_of log_id)))))

-- the answer by the leaves that lines say
leaves_clean : (P : List LogLeaf → OutputData → Type 0) → ((leaves : List LogLeaf) (printed : OutputData) → P leaves printed → IsClean printed)
    → (lines : List (List ℕ)) (printed : OutputData) → IsByLeaves P lines printed → IsClean printed
leaves_clean P each lines printed (no_leaf none unusable) = silent_clean 2 printed unusable
leaves_clean P each lines printed (of_leaves leaves said h) = each leaves printed h

-- the answer to what is wanted
pub proof_clean : (files : Option Files) (words : Wanted) (path : List ℕ) (printed : OutputData) → IsProofAnswer files words path printed → IsClean printed
proof_clean files wanted.Checkpoint path printed h =
    words_clean printed h (λ it said by_lines.
    lines_clean files path (IsByLeaves (IsProved it))
    (leaves_clean (IsProved it) (λ leaves answer is. checkpoint_of_clean leaves answer (subst (λ x. IsProved x leaves answer) said is))) printed by_lines)
proof_clean files (wanted.Inclusion place) path printed h =
    words_clean printed h (λ it said by_lines.
    lines_clean files path (IsByLeaves (IsProved it))
    (leaves_clean (IsProved it) (λ leaves answer is. inclusion_clean leaves said.0 answer (subst (λ x. IsProved x leaves answer) said.1 is)))
    printed by_lines)
proof_clean files (wanted.Consistency older) path printed h =
    words_clean printed h (λ it said by_lines.
    lines_clean files path (IsByLeaves (IsProved it))
    (leaves_clean (IsProved it) (λ leaves answer is. consistency_clean leaves said.0 answer (subst (λ x. IsProved x leaves answer) said.1 is)))
    printed by_lines)
proof_clean files (wanted.Head log_id) path printed h =
    words_clean printed h (λ it said by_lines.
    lines_clean files path (IsByLeaves (IsProved it))
    (leaves_clean (IsProved it) (λ leaves answer is. head_clean leaves said.0 answer (subst (λ x. IsProved x leaves answer) said.1 is)))
    printed by_lines)
