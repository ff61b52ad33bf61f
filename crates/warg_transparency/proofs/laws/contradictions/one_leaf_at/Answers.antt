use Rattle.std.proofs.Common.{inl, inr}
use Rattle.warg_registry.specs.PrefixEncodings.{log_leaf_encoding_of}
use Rattle.warg_transparency.proofs.LeafLemmas.{same_leaf}
use Rattle.warg_transparency.proofs.laws.contradictions.one_leaf_at.Goals as goal

pub returns : goal.returns
returns c = λ checkpoint index leaf other proof other_proof left right.
    elim (c.one_leaf.ensures (log_leaf_encoding_of leaf) (log_leaf_encoding_of other) index checkpoint.log_length proof other_proof checkpoint.log_root.bytes left.hashes right.hashes left.includes right.includes) [
      | inl (same, paths) ↦ inl (same_leaf c.no_encoding_begins_another.ensures leaf other left.ids right.ids same)
      | inr found ↦ inr found
    ]
