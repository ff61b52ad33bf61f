use Rattle.std.proofs.Common.{◌≡◌, ◌≤◌, length, take}
use Rattle.sha2.specs.Sha256.{sha256}
use Rattle.warg_merkle.specs.MerkleLog.Logs.{leaf_hashes}
use Rattle.warg_transparency.specs.RegistryTrees.{entries_of}
use Rattle.warg_transparency.proofs.registry_trees.log_of.Given as goal

abbrev pub invariant-loop-leaf : goal.invariant-loop-leaf
invariant-loop-leaf l = (l.leaf-index ≤ length l.leaves) × (l.log ≡ leaf_hashes sha256 (entries_of (take l.leaf-index l.leaves)))
