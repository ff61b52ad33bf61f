use Rattle.std.proofs.Common.{◌≡◌, [], refl, ◌∙◌, ap}
use Rattle.sha2.specs.Sha256.{sha256}
use Rattle.warg_merkle.specs.Trees.{leaf_input}
use Rattle.warg_registry.specs.PrefixEncodings.{map_leaf_encoding_of}
use Rattle.warg_transparency.specs.Heads.{head_leaf}
use Rattle.tool_checkpoints.proofs.leaves.entry_of.Goals as goal

pub returns : goal.returns
returns c =
    let key : c.copy_from_slice.new.self ≡ c.args.leaf.now.log_id.hash.bytes = c.copy_from_slice.ensures.after ∙ c.as_bytes.ensures.value in
    let hashed : c.leaf_hash.result ≡ sha256 (leaf_input (map_leaf_encoding_of (head_leaf c.args.leaf.now.record_id))) =
    c.leaf_hash.ensures ∙ ap (λ bytes. sha256 (leaf_input bytes)) (c.as_slice.ensures.value ∙ c.in_ok-visit.ensures.ok [] c.new-bytes.ensures.items) in
    rw (key, hashed) refl
