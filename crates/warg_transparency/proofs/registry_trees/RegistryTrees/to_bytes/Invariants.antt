use Rattle.std.proofs.Common.{◌≡◌, ◌≤◌, length, take}
use Rattle.warg_transparency.specs.SavedLeaves.{saved_form}
use Rattle.warg_transparency.proofs.registry_trees.RegistryTrees.to_bytes.Given as goal

abbrev pub invariant-loop-leaf : goal.invariant-loop-leaf
invariant-loop-leaf l = (l.leaf-index ≤ length l.leaves) × (l.bytes.items ≡ saved_form (take l.leaf-index l.leaves))
