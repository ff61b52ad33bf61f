-- What is printed of the ids of a log and of a record: the leaf that the record has in a registry's log.
use Rattle.std.specs.Prelude.{◌≡◌}
use Rattle.hex.specs.Hex.{IsBytes, encode_lower}
use Rattle.warg_registry.specs.PrefixEncodings.{log_leaf_encoding_of}
use Rattle.warg_registry.specs.declared.leaf.LogLeaf.{LogLeaf}
use Rattle.warg_audit.specs.Files.OutputData.{OutputData}
use Rattle.warg_audit.specs.Files.Texts.{line, yes}
use Rattle.tool_checkpoints.specs.Proofs.{IsLeafOf}
use Rattle.tool_checkpoints.specs.Words.{IsByWords}
use Rattle.tool_words.specs.declared.statement.LeafIds.{LeafIds}

-- the entry of a leaf on a line, in hex digits; its numbers are bytes
pub record IsLeafLine (leaf : LogLeaf) (printed : OutputData) : Type 0 where
  pub is : printed ≡ yes (line (encode_lower (log_leaf_encoding_of leaf)))
  pub are_bytes : IsBytes (log_leaf_encoding_of leaf)

-- what is answered to the ids of a log and of a record
abbrev pub IsLeafAnswer : LeafIds → OutputData → Type 0
IsLeafAnswer ids printed = IsByWords (IsLeafOf ids.log_id.now ids.record_id.now) IsLeafLine printed
