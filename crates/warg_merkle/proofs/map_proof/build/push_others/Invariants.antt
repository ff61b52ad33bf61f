use Rattle.std.proofs.Common.{◌≡◌, ◌-◌, ◌≤◌, ◌++◌, drop}
use Rattle.std.specs.List.{concat}
use Rattle.warg_merkle.specs.MapProof.ShortForms.{others_of}
use Rattle.warg_merkle.proofs.map_proof.build.push_others.Given as goal

abbrev pub invariant-loop-height : goal.invariant-loop-height
invariant-loop-height l = (l.height ≤ 256) × (l.bytes.items ++ concat (others_of l.height l.left_out (drop l.height l.path)) ≡ l.initial.bytes.items ++ concat (others_of 0 l.left_out l.path))

abbrev pub decreases-loop-height : goal.decreases-loop-height
decreases-loop-height l = 256 - l.height
