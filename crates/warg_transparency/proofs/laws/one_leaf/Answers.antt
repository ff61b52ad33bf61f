use Rattle.std.proofs.Common.{◌≡◌, ◌∙◌, ◌++◌, [], inl, inr, append-nil}
use Rattle.sha2.specs.Sha256.{sha256}
use Rattle.sha2.proofs.Facts256.{length-sha256}
use Rattle.warg_merkle.proofs.Climbs as two
use Rattle.warg_merkle.specs.SparseMap.Maps.{sides_up}
use Rattle.warg_registry.specs.declared.leaf.MapLeaf.{MapLeaf}
use Rattle.warg_registry.specs.PrefixEncodings.{MapLeafValue, map_leaf_encoding_of, prefix_encoding_of, IsHash, IsPrefixCode}
use Rattle.warg_transparency.proofs.laws.one_leaf.Goals as goal

same_leaf : IsPrefixCode → (leaf other : MapLeaf) → IsHash leaf.record_id.hash → IsHash other.record_id.hash → map_leaf_encoding_of leaf ≡ map_leaf_encoding_of other → leaf ≡ other
same_leaf code leaf other is other_is e =
    let whole : prefix_encoding_of (MapLeafValue leaf) ++ [] ≡ prefix_encoding_of (MapLeafValue other) = append-nil (map_leaf_encoding_of leaf) ∙ e in
    let same = (code (MapLeafValue leaf) (MapLeafValue other) [] is other_is whole).1 in
    cc

pub returns : goal.returns
returns c = λ root log_id leaf other proof other_proof left right.
    elim (two.one_leaf sha256 length-sha256 (sides_up 256 log_id.hash.bytes) proof other_proof (map_leaf_encoding_of leaf) (map_leaf_encoding_of other) root.bytes left.siblings right.siblings left.leads right.leads) [
      | inl (same, rest) ↦ inl (same_leaf c.no_encoding_begins_another.ensures leaf other left.record_id right.record_id same)
      | inr found ↦ inr found
    ]
