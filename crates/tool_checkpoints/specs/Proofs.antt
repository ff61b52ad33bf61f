-- What is said of statements about a registry's log and map, and the proofs that are printed.
use Rattle.std.specs.Prelude.{◌≡◌, ◌⊎◌, Bool, List, [], ◌∷◌, ℕ, codes, Option, Some, None, Ok, IsUtf8, if◌then◌else◌}
use Rattle.std.specs.Str.{trim_end}
use Rattle.sha2.specs.Sha256.{sha256}
use Rattle.serde_json.specs.Data.{Data}
use Rattle.serde_json.specs.Read.{read}
use Rattle.warg_merkle.specs.SparseMap.Maps.{Leads}
use Rattle.warg_merkle.specs.Trees.{Includes}
use Rattle.warg_registry.specs.PrefixEncodings.{log_leaf_encoding_of}
use Rattle.warg_transparency.specs.Heads.{ShowsHead}
use Rattle.warg_transparency.specs.Texts.{log_proof_of, log_proof_text, map_proof_of, map_proof_text}
use Rattle.warg_transparency.specs.Views.{GoesOn}
use Rattle.warg_registry.specs.RegistryJson.{checkpoint_in}
use Rattle.warg_registry.specs.declared.checkpoint.Checkpoint.{Checkpoint}
use Rattle.warg_registry.specs.declared.leaf.LogLeaf.{LogLeaf}
use Rattle.warg_audit.specs.Files.OutputData.{OutputData}
use Rattle.warg_audit.specs.Files.Files.{Files}
use Rattle.warg_audit.specs.Files.Texts.{line, yes, no}
use Rattle.tool_checkpoints.specs.Words.{IsByFile, IsByWords, IsLogWord, IsNumber, IsRecordWord}
use Rattle.tool_words.specs.declared.statement.Statement.{Statement}
use Rattle.tool_words.specs.declared.statement.Statement.TheVariants as statement

-- whether a statement holds, in words
abbrev pub verdict_text : Bool → OutputData
verdict_text holds = if holds then yes (codes "holds\n") else no (codes "does not hold\n")

-- the words are those of the statement
abbrev pub IsVerdict : Type 0 → OutputData → Type 0
IsVerdict Statement printed = (Statement × (printed ≡ yes (codes "holds\n"))) ⊎ ((Statement → ⊥) × (printed ≡ no (codes "does not hold\n")))

-- a proof on the log on a line, or `none`
abbrev pub log_proof_line : Option (List (List ℕ)) → OutputData
log_proof_line None = no (codes "none\n")
log_proof_line (Some hashes) = yes (line (log_proof_text hashes))

-- a proof on the map on a line
abbrev pub map_proof_line : List (List ℕ) → OutputData
map_proof_line path = yes (line (map_proof_text path))

-- ---- what words and files say

-- the leaf that the ids of a log and of a record say
pub record IsLeafOf (log_id record_id : List ℕ) (leaf : LogLeaf) : Type 0 where
  pub log_is : IsLogWord log_id leaf.log_id
  pub record_is : IsRecordWord record_id leaf.record_id

-- the members of a checkpoint's JSON
abbrev pub checkpoint_members : List (List ℕ)
checkpoint_members = codes "logRoot" ∷ codes "logLength" ∷ codes "mapRoot" ∷ []

-- the checkpoint whose JSON bytes are, which are a text
pub record IsCheckpoint (bytes : List ℕ) (checkpoint : Checkpoint) : Type 0 where
  pub utf8 : IsUtf8 bytes
  pub value : Data
  pub json : read bytes ≡ Some value
  pub said : checkpoint_in value ≡ Ok checkpoint

-- the proof on a log that bytes are, which are its text, with blanks behind it or none
pub record IsLogProof (bytes : List ℕ) (hashes : List (List ℕ)) : Type 0 where
  pub utf8 : IsUtf8 bytes
  pub said : log_proof_of (trim_end bytes) ≡ Ok hashes

-- the same of a proof on a map
pub record IsMapProof (bytes : List ℕ) (siblings : List (List ℕ)) : Type 0 where
  pub utf8 : IsUtf8 bytes
  pub said : map_proof_of (trim_end bytes) ≡ Ok siblings

module _ (files : Option Files) where
  -- ---- what is said of each statement, by its words and its files, in the order in which they are read

  abbrev pub IsInclusionVerdict : List ℕ → List ℕ → List ℕ → List ℕ → List ℕ → OutputData → Type 0
  IsInclusionVerdict checkpoint_path place log_id record_id proof_path printed =
      IsByWords (IsLeafOf log_id record_id) (λ leaf.
      IsByWords (IsNumber place) (λ index.
      IsByFile files checkpoint_path IsCheckpoint (λ checkpoint.
      IsByFile files proof_path IsLogProof (λ hashes.
      IsVerdict (Includes sha256 (log_leaf_encoding_of leaf) index checkpoint.log_length hashes checkpoint.log_root.bytes))))) printed

  abbrev pub IsConsistencyVerdict : List ℕ → List ℕ → List ℕ → OutputData → Type 0
  IsConsistencyVerdict old_path new_path proof_path printed =
      IsByFile files old_path IsCheckpoint (λ old.
      IsByFile files new_path IsCheckpoint (λ new.
      IsByFile files proof_path IsLogProof (λ hashes.
      IsVerdict (GoesOn old new hashes)))) printed

  abbrev pub IsHeadVerdict : List ℕ → List ℕ → List ℕ → List ℕ → OutputData → Type 0
  IsHeadVerdict checkpoint_path log_id record_id proof_path printed =
      IsByWords (IsLeafOf log_id record_id) (λ leaf.
      IsByFile files checkpoint_path IsCheckpoint (λ checkpoint.
      IsByFile files proof_path IsMapProof (λ siblings.
      IsVerdict (ShowsHead checkpoint leaf.log_id leaf.record_id siblings)))) printed

  abbrev pub IsAbsenceVerdict : List ℕ → List ℕ → List ℕ → OutputData → Type 0
  IsAbsenceVerdict checkpoint_path log_id proof_path printed =
      IsByWords (IsLogWord log_id) (λ log.
      IsByFile files checkpoint_path IsCheckpoint (λ checkpoint.
      IsByFile files proof_path IsMapProof (λ siblings.
      IsVerdict (Leads sha256 None log.hash.bytes siblings checkpoint.map_root.bytes)))) printed

  -- what is said of a statement
  abbrev pub IsStatementVerdict : Statement → OutputData → Type 0
  IsStatementVerdict (statement.Inclusion checkpoint place leaf proof) printed =
      IsInclusionVerdict checkpoint.now place.now leaf.log_id.now leaf.record_id.now proof.now printed
  IsStatementVerdict (statement.Consistency old new proof) printed = IsConsistencyVerdict old.now new.now proof.now printed
  IsStatementVerdict (statement.Head checkpoint leaf proof) printed =
      IsHeadVerdict checkpoint.now leaf.log_id.now leaf.record_id.now proof.now printed
  IsStatementVerdict (statement.Absence checkpoint log_id proof) printed = IsAbsenceVerdict checkpoint.now log_id.now proof.now printed
