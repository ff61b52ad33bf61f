-- The leaves of a registry, as the lines of a file list them, and the log and the map that they make.
use Rattle.std.specs.Prelude.{◌≡◌, ◌≢◌, ◌<◌, ℕ, length, List, ◌∷◌, ◌++◌, map, Option, Some, None, Result, Ok, Err, if◌then◌else◌}
use Rattle.std.specs.List.{AllByRecursion, Contains, after_first, before_first}
use Rattle.std.specs.Str.{is_utf8}
use Rattle.sha2.specs.Sha256.{sha256}
use Rattle.warg_crypto.specs.declared.hash.AnyHashError.{AnyHashError}
use Rattle.warg_log_records.specs.RecordIds.{id_of_text as record_id_of_text}
use Rattle.warg_log_records.specs.declared.record_id.RecordId.{RecordId}
use Rattle.warg_registry.specs.LogIds.{id_of_text as log_id_of_text}
use Rattle.warg_registry.specs.PrefixEncodings.{map_leaf_encoding_of}
use Rattle.warg_listed_map.specs.ListedMaps.{IsMapOf}
use Rattle.warg_listed_map.specs.declared.entry.Entry.{Entry}
use Rattle.warg_merkle.specs.SparseMap.Maps.{map_root, way_down}
use Rattle.warg_transparency.specs.MapTree.{way_of}
use Rattle.warg_merkle.specs.Trees.{Side, leaf_input}
use Rattle.warg_registry.specs.PrefixEncodings.{log_leaf_encoding_of}
use Rattle.warg_transparency.specs.Heads.{head_leaf}
use Rattle.warg_transparency.specs.Views.{IsLogOf}
use Rattle.warg_audit.specs.Files.Lines.{without_return}
use Rattle.warg_registry.specs.declared.checkpoint.Checkpoint.{Checkpoint}
use Rattle.warg_registry.specs.declared.leaf.LogLeaf.{LogLeaf}
use Rattle.warg_registry.specs.declared.log_id.LogId.{LogId}
use Rattle.warg_claims.specs.Verified.Lines.{has_no_space, is_space}

-- ---- which leaf a line says

-- the leaf of a log and of a record, if both are said
abbrev pub leaf_of_both : Result LogId AnyHashError → Result RecordId AnyHashError → Option LogLeaf
leaf_of_both (Err fault) record_id = None
leaf_of_both (Ok log_id) (Err fault) = None
leaf_of_both (Ok log_id) (Ok record_id) = Some (record { log_id = log_id; record_id = record_id })

-- the leaf that the ids of a log and of a record say, if both are ids
abbrev pub leaf_of_ids : List ℕ → List ℕ → Option LogLeaf
leaf_of_ids log_id record_id = leaf_of_both (log_id_of_text log_id) (record_id_of_text record_id)

-- the leaf that a text says: the id of its log, a space, and the id of its record
abbrev pub leaf_of_text : List ℕ → Option LogLeaf
leaf_of_text text = if has_no_space text then None else leaf_of_ids (before_first is_space text) (after_first is_space text)

-- the leaf that a line says, if it is a text
abbrev pub leaf_of_line : List ℕ → Option LogLeaf
leaf_of_line line = if is_utf8 (without_return line) then leaf_of_text (without_return line) else None

-- the lines say the leaves, each the one at its place
abbrev pub SayLeaves : List (List ℕ) → List LogLeaf → Type 0
SayLeaves lines leaves = map leaf_of_line lines ≡ map Some leaves

-- one of the lines says no leaf
pub record HasNoLeaf (lines : List (List ℕ)) : Type 0 where
  pub front : List (List ℕ)
  pub line : List ℕ
  pub more : List (List ℕ)
  pub parts : lines ≡ front ++ line ∷ more
  pub bad : leaf_of_line line ≡ None

-- ---- what leaves make

-- the entries of the log: the prefix encodings of the leaves
abbrev pub entries_of : List LogLeaf → List (List ℕ)
entries_of leaves = map log_leaf_encoding_of leaves

-- the leaf is the last of those whose logs have its way down the map
pub record IsLast (leaves : List LogLeaf) (leaf : LogLeaf) : Type 0 where
  pub before : List LogLeaf
  pub after : List LogLeaf
  pub parts : leaves ≡ before ++ leaf ∷ after
  pub no_later : AllByRecursion (λ (later : LogLeaf). way_of later.log_id ≢ way_of leaf.log_id) after

-- the map has the last record of each log that has a leaf, and nothing else
pub record HasHeads (leaves : List LogLeaf) (m : List Side → Option (List ℕ)) : Type 0 where
  pub last : (leaf : LogLeaf) → IsLast leaves leaf → m (way_of leaf.log_id) ≡ Some (map_leaf_encoding_of (head_leaf leaf.record_id))
  pub none : (way : List Side) → AllByRecursion (λ (leaf : LogLeaf). way_of leaf.log_id ≢ way) leaves → m way ≡ None

-- the log of these hashes and the map are those of the leaves
pub record IsRegistryOf (leaves : List LogLeaf) (hashes : List (List ℕ)) (m : List Side → Option (List ℕ)) : Type 0 where
  pub log : hashes ≡ map (λ entry. sha256 (leaf_input entry)) (entries_of leaves)
  pub heads : HasHeads leaves m

-- the entry of the map that a leaf makes, by the leaf's place
abbrev pub entry_of : ℕ → LogLeaf → Entry
entry_of place leaf = record { key = leaf.log_id.hash.bytes; leaf = sha256 (leaf_input (map_leaf_encoding_of (head_leaf leaf.record_id))); place = place }

-- the log of these hashes, and the map of these entries, each of a place of its own, are those of the leaves
pub record AreTreesOf (leaves : List LogLeaf) (hashes : List (List ℕ)) (entries : List Entry) : Type 0 where
  pub m : List Side → Option (List ℕ)
  pub registry : IsRegistryOf leaves hashes m
  pub map : IsMapOf way_down entries m
  pub placed : (e : Entry) → Contains entries e → e.place < length entries

-- the fact, for the leaves that the log and the map are of
abbrev pub ForRegistry : List (List ℕ) → List Entry → (List LogLeaf → Type 0) → Type 0
ForRegistry hashes entries P = (leaves : List LogLeaf) → AreTreesOf leaves hashes entries → P leaves

-- the lines say leaves, and the log and the map are those of the leaves
pub record SayRegistry (lines hashes : List (List ℕ)) (entries : List Entry) : Type 0 where
  pub leaves : List LogLeaf
  pub said : SayLeaves lines leaves
  pub trees : AreTreesOf leaves hashes entries

-- the checkpoint has the length and the root of the log of the leaves, and the root of their map
pub record IsCheckpointOf (leaves : List LogLeaf) (checkpoint : Checkpoint) : Type 0 where
  pub log : IsLogOf checkpoint (entries_of leaves)
  pub m : List Side → Option (List ℕ)
  pub heads : HasHeads leaves m
  pub root : checkpoint.map_root.bytes ≡ map_root sha256 256 m
