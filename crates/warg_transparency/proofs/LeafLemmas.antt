-- Leaves of one encoding are one.
use Rattle.std.proofs.Common.{◌≡◌, ◌∙◌, ◌++◌, [], append-nil}
use Rattle.warg_registry.specs.declared.leaf.LogLeaf.{LogLeaf}
use Rattle.warg_registry.specs.PrefixEncodings.{LogLeafValue, log_leaf_encoding_of, prefix_encoding_of, IsPrefixCode}
use Rattle.warg_transparency.specs.RegistryTrees.{HasHashes}

pub same_leaf : IsPrefixCode → (leaf other : LogLeaf) → HasHashes leaf → HasHashes other → log_leaf_encoding_of leaf ≡ log_leaf_encoding_of other → leaf ≡ other
same_leaf code leaf other is other_is e =
    let whole : prefix_encoding_of (LogLeafValue leaf) ++ [] ≡ prefix_encoding_of (LogLeafValue other) = append-nil (log_leaf_encoding_of leaf) ∙ e in
    let same = (code (LogLeafValue leaf) (LogLeafValue other) [] (is.log_id, is.record_id) (other_is.log_id, other_is.record_id) whole).1 in
    cc
