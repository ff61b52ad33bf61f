use Rattle.std.proofs.Common.{◌≡◌, ◌≤◌, length, take}
use Rattle.std.specs.List.{All, concat}
use Rattle.warg_transparency.specs.RegistryTrees.{HasHashes}
use Rattle.warg_transparency.specs.SavedLeaves.{saved_form}
use Rattle.warg_transparency.proofs.saved_leaves.leaves_of.Given as goal

abbrev pub invariant-loop-chunk : goal.invariant-loop-chunk
invariant-loop-chunk l = record {
  within : l.chunk-index ≤ length l.chunks;
  is_form : saved_form l.leaves.items ≡ concat (take l.chunk-index l.chunks);
  hashes : All HasHashes l.leaves.items;
}
