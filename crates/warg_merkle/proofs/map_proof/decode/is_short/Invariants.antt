use Rattle.std.proofs.Common.{◌≡◌, ◌↔◌, ◌-◌, ◌≤◌}
use Rattle.sha2.specs.Sha256.{sha256}
use Rattle.warg_merkle.specs.SparseMap.Maps.{empty_root}
use Rattle.warg_merkle.specs.MapProof.ShortForms.{IsCanonical}
use Rattle.warg_merkle.proofs.map_proof.decode.is_short.Given as goal

abbrev pub invariant-loop-height : goal.invariant-loop-height
invariant-loop-height l = (l.height ≤ 256) × (l.empty ≡ empty_root sha256 l.height) × (IsCanonical sha256 (256 - l.height) l.height l.left_out l.rest ↔ IsCanonical sha256 256 0 l.left_out l.others)

abbrev pub decreases-loop-height : goal.decreases-loop-height
decreases-loop-height l = 256 - l.height
