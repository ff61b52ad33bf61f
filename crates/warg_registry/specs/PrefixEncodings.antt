-- The prefix encodings of what a registry and a transparency log sign and hash.
use Rattle.std.specs.Prelude.{◌≡◌, ℕ, List, [], ◌++◌, codes, length}
use Rattle.hex.specs.Hex.{IsBytes}
use Rattle.warg_crypto.specs.HashText.{hash_text}
use Rattle.warg_crypto.specs.Prefix.{unsigned_of, str_of}
use Rattle.warg_crypto.specs.declared.hash.AnyHash.{AnyHash}
use Rattle.warg_registry.specs.declared.checkpoint.Checkpoint.{Checkpoint}
use Rattle.warg_registry.specs.declared.checkpoint.TimestampedCheckpoint.{TimestampedCheckpoint}
use Rattle.warg_registry.specs.declared.leaf.MapLeaf.{MapLeaf}
use Rattle.warg_registry.specs.declared.leaf.LogLeaf.{LogLeaf}

-- a hash, as its text behind the text's length
abbrev pub hash_encoding_of : AnyHash → List ℕ
hash_encoding_of h = str_of (hash_text h)

-- of a checkpoint: the name of the kind, the log's length and root, the map's root
abbrev pub checkpoint_encoding_of : Checkpoint → List ℕ
checkpoint_encoding_of c = codes "WARG-CHECKPOINT-V0" ++ (unsigned_of c.log_length ++ (hash_encoding_of c.log_root ++ hash_encoding_of c.map_root))

-- of a timestamped checkpoint: the name of the kind, the three of the checkpoint, the timestamp
abbrev pub timestamped_checkpoint_encoding_of : TimestampedCheckpoint → List ℕ
timestamped_checkpoint_encoding_of t = codes "WARG-TIMESTAMPED-CHECKPOINT-V0"
    ++ (unsigned_of t.checkpoint.log_length ++ (hash_encoding_of t.checkpoint.log_root ++ (hash_encoding_of t.checkpoint.map_root ++ unsigned_of t.timestamp)))

-- of a leaf of the map: the name of the kind, the record's id
abbrev pub map_leaf_encoding_of : MapLeaf → List ℕ
map_leaf_encoding_of l = codes "WARG-MAP-LEAF-V0" ++ hash_encoding_of l.record_id.hash

-- of a leaf of the log: the name of the kind, the log's id, the record's id
abbrev pub log_leaf_encoding_of : LogLeaf → List ℕ
log_leaf_encoding_of l = codes "WARG-LOG-LEAF-V0" ++ (hash_encoding_of l.log_id.hash ++ hash_encoding_of l.record_id.hash)

-- of a package name, by its text
abbrev pub package_name_encoding_of : List ℕ → List ℕ
package_name_encoding_of name = codes "WARG-PACKAGE-ID-V0" ++ str_of name

-- a value of one of the five kinds
pub data EncodedValue : Type 0 where
  CheckpointValue : Checkpoint → EncodedValue
  TimestampedCheckpointValue : TimestampedCheckpoint → EncodedValue
  MapLeafValue : MapLeaf → EncodedValue
  LogLeafValue : LogLeaf → EncodedValue
  PackageNameValue : List ℕ → EncodedValue

-- of a value of any of these kinds
abbrev pub prefix_encoding_of : EncodedValue → List ℕ
prefix_encoding_of (CheckpointValue c) = checkpoint_encoding_of c
prefix_encoding_of (TimestampedCheckpointValue t) = timestamped_checkpoint_encoding_of t
prefix_encoding_of (MapLeafValue l) = map_leaf_encoding_of l
prefix_encoding_of (LogLeafValue l) = log_leaf_encoding_of l
prefix_encoding_of (PackageNameValue name) = package_name_encoding_of name

-- 32 bytes: what every hash of the code holds
pub record IsHash (h : AnyHash) : Type 0 where
  pub len : length h.bytes ≡ 32
  pub fits : IsBytes h.bytes

-- the hashes of the value are of 32 bytes
abbrev pub HoldsHashes : EncodedValue → Type 0
HoldsHashes (CheckpointValue c) = IsHash c.log_root × IsHash c.map_root
HoldsHashes (TimestampedCheckpointValue t) = IsHash t.checkpoint.log_root × IsHash t.checkpoint.map_root
HoldsHashes (MapLeafValue l) = IsHash l.record_id.hash
HoldsHashes (LogLeafValue l) = IsHash l.log_id.hash × IsHash l.record_id.hash
HoldsHashes (PackageNameValue name) = Unit {0}

-- no encoding is a proper beginning of another, and equal ones come from equal values of one kind
abbrev pub IsPrefixCode : Type 0
IsPrefixCode = (x y : EncodedValue) (rest : List ℕ) → HoldsHashes x → HoldsHashes y → prefix_encoding_of x ++ rest ≡ prefix_encoding_of y → (rest ≡ []) × (x ≡ y)
