-- What is printed of a registry's log and map, by the leaves that a file lists.
use Rattle.std.specs.Prelude.{◌≡◌, ℕ, nat_le, nat_lt, List, [], codes, length, take, slice_index_or, Option, Some, None, IfSome, Result, Ok, Err, if◌then◌else◌}
use Rattle.sha2.specs.Sha256.{sha256}
use Rattle.warg_crypto.specs.declared.json.error.JsonError.{JsonError}
use Rattle.warg_saved_states.specs.Texts.{text_of}
use Rattle.warg_merkle.specs.SparseMap.Maps.{Leads, map_path, map_root}
use Rattle.warg_transparency.specs.MapTree.{way_of}
use Rattle.warg_merkle.specs.Extensions.{IsConsistent, consistency_proof}
use Rattle.warg_merkle.specs.Trees.{Includes, Side, inclusion_path, tree_hash}
use Rattle.warg_transparency.specs.Texts.{log_proof_of, log_proof_text, map_proof_of, map_proof_text}
use Rattle.warg_audit.specs.Files.OutputData.{OutputData}
use Rattle.warg_registry.specs.RegistryJson.{checkpoint_json}
use Rattle.warg_registry.specs.declared.checkpoint.Checkpoint.{Checkpoint}
use Rattle.warg_registry.specs.declared.leaf.LogLeaf.{LogLeaf}
use Rattle.warg_registry.specs.declared.log_id.LogId.{LogId}
use Rattle.warg_audit.specs.Files.Files.{Files}
use Rattle.tool_checkpoints.specs.Proofs.{log_proof_line, map_proof_line}
use Rattle.tool_checkpoints.specs.Words.{IsByWords, IsLogWord, IsNumber}
use Rattle.tool_checkpoints.specs.RegistryLeaves.{HasHeads, HasNoLeaf, IsCheckpointOf, SayLeaves, entries_of}
use Rattle.warg_audit.specs.Files.Texts.{line, no, yes}
use Rattle.warg_audit.specs.Files.Unusable.{IsOfLines}
use Rattle.warg_audit.specs.Files.Answers.{IsUnusable}
use Rattle.tool_checkpoints.specs.declared.prove.Asked.{Asked}
use Rattle.tool_checkpoints.specs.declared.prove.Asked.TheVariants as asked
use Rattle.tool_words.specs.declared.statement.Wanted.{Wanted}
use Rattle.tool_words.specs.declared.statement.Wanted.TheVariants as wanted

-- ---- what words ask for

-- the proof of the place that a word says is asked
abbrev pub AsksInclusion : List ℕ → Asked → Type 0
AsksInclusion word it = (index : ℕ) × (it ≡ asked.Inclusion index) × IsNumber word index

-- the proof that the log goes on from as many leaves as a word says is asked
abbrev pub AsksConsistency : List ℕ → Asked → Type 0
AsksConsistency word it = (first : ℕ) × (it ≡ asked.Consistency first) × IsNumber word first

-- what the map says of the log that a word names is asked
abbrev pub AsksHead : List ℕ → Asked → Type 0
AsksHead word it = (log_id : LogId) × (it ≡ asked.Head log_id) × IsLogWord word log_id

-- what is asked, by the words of what is wanted
abbrev pub Asks : Wanted → Asked → Type 0
Asks wanted.Checkpoint it = it ≡ asked.Checkpoint
Asks (wanted.Inclusion place) it = AsksInclusion place.now it
Asks (wanted.Consistency older) it = AsksConsistency older.now it
Asks (wanted.Head log_id) it = AsksHead log_id.now it

-- the answer by the leaves that lines say; where a line says none, nothing is printed, and the status is 2
pub data IsByLeaves (P : List LogLeaf → OutputData → Type 0) (lines : List (List ℕ)) (printed : OutputData) : Type 0 where
  no_leaf : HasNoLeaf lines → IsUnusable printed → IsByLeaves P lines printed
  of_leaves : (leaves : List LogLeaf) → SayLeaves lines leaves → P leaves printed → IsByLeaves P lines printed

-- ---- what is printed of leaves

-- the JSON of a checkpoint on a line
abbrev pub checkpoint_line : Result (List ℕ) JsonError → OutputData
checkpoint_line (Ok text) = yes (line text)
checkpoint_line (Err fault) = no (codes "none\n")

-- the line of the leaves' checkpoint
pub record IsCheckpointText (leaves : List LogLeaf) (printed : OutputData) : Type 0 where
  pub checkpoint : Checkpoint
  pub stands : IsCheckpointOf leaves checkpoint
  pub is : printed ≡ checkpoint_line (text_of (checkpoint_json checkpoint))

-- the proof that an entry stands at a place, or none past the end
abbrev pub inclusion_of : ℕ → List (List ℕ) → Option (List (List ℕ))
inclusion_of index entries = if nat_lt index (length entries) then Some (inclusion_path sha256 index entries) else None

-- the proof that a log begins with its first entries, or none where it has not that many
abbrev pub consistency_of : ℕ → List (List ℕ) → Option (List (List ℕ))
consistency_of first entries = if nat_le first (length entries) then Some (consistency_proof sha256 first entries) else None

-- the path leads from the entry at a place to the root of the entries
abbrev pub ShowsEntry : ℕ → List (List ℕ) → List (List ℕ) → Type 0
ShowsEntry index entries path = Includes sha256 (slice_index_or entries index []) index (length entries) path (tree_hash sha256 entries)

-- the proof shows the root of the first entries under the root of all
abbrev pub ShowsBeginning : ℕ → List (List ℕ) → List (List ℕ) → Type 0
ShowsBeginning first entries proof = IsConsistent sha256 first (length entries) proof (tree_hash sha256 (take first entries)) (tree_hash sha256 entries)

-- the text of the proof on a log reads back as it
abbrev pub LogProofReadsBack : List (List ℕ) → Type 0
LogProofReadsBack proof = log_proof_of (log_proof_text proof) ≡ Ok proof

-- the line of the proof that the leaf at a place stands there, or `none`: it shows that, and reads back
pub record IsInclusionText (index : ℕ) (leaves : List LogLeaf) (printed : OutputData) : Type 0 where
  pub is : printed ≡ log_proof_line (inclusion_of index (entries_of leaves))
  pub shows : IfSome (inclusion_of index (entries_of leaves)) (ShowsEntry index (entries_of leaves))
  pub reads_back : IfSome (inclusion_of index (entries_of leaves)) LogProofReadsBack

-- the line of the proof that the log begins with its first leaves, or `none`: it shows that, and reads back
pub record IsConsistencyText (first : ℕ) (leaves : List LogLeaf) (printed : OutputData) : Type 0 where
  pub is : printed ≡ log_proof_line (consistency_of first (entries_of leaves))
  pub shows : IfSome (consistency_of first (entries_of leaves)) (ShowsBeginning first (entries_of leaves))
  pub reads_back : IfSome (consistency_of first (entries_of leaves)) LogProofReadsBack

-- the line of what the map says of a log: it leads from that to the map's root, and reads back
pub record IsHeadText (log_id : LogId) (leaves : List LogLeaf) (printed : OutputData) : Type 0 where
  pub m : List Side → Option (List ℕ)
  pub heads : HasHeads leaves m
  pub path : List (List ℕ)
  pub path_is : path ≡ map_path sha256 m (way_of log_id)
  pub is : printed ≡ map_proof_line path
  pub shows : Leads sha256 (m (way_of log_id)) log_id.hash.bytes path (map_root sha256 256 m)
  pub reads_back : map_proof_of (map_proof_text path) ≡ Ok path

-- what is printed of the leaves to what is asked
abbrev pub IsProved : Asked → List LogLeaf → OutputData → Type 0
IsProved asked.Checkpoint leaves printed = IsCheckpointText leaves printed
IsProved (asked.Inclusion index) leaves printed = IsInclusionText index leaves printed
IsProved (asked.Consistency first) leaves printed = IsConsistencyText first leaves printed
IsProved (asked.Head log_id) leaves printed = IsHeadText log_id leaves printed

-- what is answered to what is wanted, by its words and by what the file of the leaves holds
abbrev pub IsProofAnswer : Option Files → Wanted → List ℕ → OutputData → Type 0
IsProofAnswer files words path printed = IsByWords (Asks words) (λ it. IsOfLines files path (IsByLeaves (IsProved it))) printed
