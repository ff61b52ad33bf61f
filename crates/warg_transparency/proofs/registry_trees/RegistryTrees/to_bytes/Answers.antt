use Rattle.std.proofs.Common.{◌∙◌, ap, arith}
use Rattle.warg_crypto.specs.declared.hash.AnyHash.{AnyHash}
use Rattle.warg_transparency.proofs.SavedLeavesLemmas.{saved_next}
use Rattle.warg_transparency.proofs.registry_trees.RegistryTrees.to_bytes.Goals as goal

pub loop-leaf-preserved : goal.loop-leaf-preserved
loop-leaf-preserved c = (
  omega arith,
  saved_next c.leaves-leaves.result.now c.loop-leaf.leaf-index _ c.loop-leaf.bytes.items c.extend_from_slice.new.self.items c.extend_from_slice-in-loop-leaf.new.self.items c.as_bytes.result.now c.bytes.result.now (omega arith) c.loop-leaf.invariant.1
      c.in_ok-extend_from_slice.ensures.items c.as_bytes.ensures.value c.in_ok-extend_from_slice-2.ensures.items (c.bytes.ensures.value ∙ ap (λ (h : AnyHash). h.bytes) c.from.ensures),
)
