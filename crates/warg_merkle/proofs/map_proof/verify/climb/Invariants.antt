use Rattle.std.proofs.Common.{◌≡◌, ◌+◌}
use Rattle.sha2.specs.Sha256.{sha256}
use Rattle.warg_merkle.specs.Trees.{climb}
use Rattle.warg_merkle.specs.SparseMap.Maps.{sides_up, empty_root}
use Rattle.warg_merkle.specs.MapProof.ShortForms.{IsCanonical}
use Rattle.warg_merkle.proofs.MapProofLemmas.Ups.{end_of}
use Rattle.warg_merkle.proofs.map_proof.verify.climb.Given as goal

abbrev pub invariant-loop-depth : goal.invariant-loop-depth
invariant-loop-depth l = record {
  levels : l.depth + l.height ≡ 256;
  empty : l.empty ≡ empty_root sha256 l.height;
  canonical : IsCanonical sha256 l.depth l.height l.left_out l.rest;
  climbs : end_of sha256 l.depth l.height l.key l.left_out l.rest l.hash ≡ climb sha256 (sides_up 256 l.fn.key) l.fn.proof l.fn.from;
}

abbrev pub decreases-loop-depth : goal.decreases-loop-depth
decreases-loop-depth l = l.depth
