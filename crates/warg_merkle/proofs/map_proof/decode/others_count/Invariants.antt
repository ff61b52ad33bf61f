use Rattle.std.proofs.Common.{◌≡◌, ◌+◌, ◌-◌, ◌≤◌}
use Rattle.warg_merkle.specs.MapProof.ShortForms.{others_count}
use Rattle.warg_merkle.proofs.map_proof.decode.others_count.Given as goal

abbrev pub invariant-loop-height : goal.invariant-loop-height
invariant-loop-height l = (l.height ≤ 256) × (l.count ≤ l.height) × (l.count + others_count (256 - l.height) l.height l.left_out ≡ others_count 256 0 l.left_out)

abbrev pub decreases-loop-height : goal.decreases-loop-height
decreases-loop-height l = 256 - l.height
