use Rattle.std.proofs.Common.{◌≡◌, ◌-◌, ◌≤◌, length}
use Rattle.sha2.specs.Sha256.{sha256}
use Rattle.warg_merkle.specs.SparseMap.Maps.{empty_root}
use Rattle.warg_merkle.proofs.MapProofLemmas.Marks.{Marked}
use Rattle.warg_merkle.proofs.map_proof.build.bits_of.Given as goal

abbrev pub invariant-loop-height : goal.invariant-loop-height
invariant-loop-height l = record {
  in_path : l.height ≤ 256;
  empty : l.empty ≡ empty_root sha256 l.height;
  size : length l.bits ≡ 32;
  marked : Marked sha256 l.bits l.height l.path;
}

abbrev pub decreases-loop-height : goal.decreases-loop-height
decreases-loop-height l = 256 - l.height
