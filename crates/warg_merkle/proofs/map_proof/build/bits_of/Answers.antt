use Rattle.std.proofs.Common.{◌≡◌, ◌+◌, ◌/◌, true, false, refl, sym, ◌∙◌, arith}
use Rattle.std.proofs.lemmas.List.{length-set}
use Rattle.sha2.specs.Sha256.{sha256}
use Rattle.warg_merkle.proofs.MapProofLemmas.Steps.{empty_leaf, empty_up}
use Rattle.warg_merkle.proofs.MapProofLemmas.Marks.{marked_none, marked_more, marked_same}
use Rattle.warg_merkle.proofs.map_proof.build.bits_of.Goals as goal
use Rattle.warg_merkle.proofs.map_proof.build.bits_of.Goals.{then-is_same_hash, else-is_same_hash}

pub loop-height-init : goal.loop-height-init
loop-height-init c = record { in_path = omega arith; empty = c.digest-empty.ensures ∙ empty_leaf sha256; size = refl; marked = marked_none sha256 c.args.path.now }

pub loop-height-preserved : goal.loop-height-preserved
loop-height-preserved c =
    let bits = c.loop-height.bits in
    let h = c.loop-height.height in
    let empty = c.loop-height.invariant.empty in
    let size = c.loop-height.invariant.size in
    let above = c.node_hash-empty.ensures ∙ empty_up sha256 h (h + 1) c.loop-height.empty (omega arith) empty in
    elim c.if-is_same_hash.branch [
      | then-is_same_hash w ↦ rw w.bits-is record {
        in_path = omega arith;
        empty = above;
        size = length-set bits (h / 8) _ ∙ size;
        marked = marked_more sha256 bits h c.args.path.now (omega arith) c.loop-height.invariant.marked (w.if-is_same_hash.ensures.0 refl ∙ empty);
      }
      | else-is_same_hash w ↦ rw w.bits-is record {
        in_path = omega arith;
        empty = above;
        size = size;
        marked = marked_same sha256 bits h c.args.path.now c.loop-height.invariant.marked (λ e. let t : false ≡ true = w.if-is_same_hash.ensures.1 (e ∙ sym empty) in cc);
      }
    ]
