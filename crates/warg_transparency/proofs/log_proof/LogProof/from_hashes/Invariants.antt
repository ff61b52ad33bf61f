use Rattle.std.proofs.Common.{◌≡◌, ◌≤◌, length, take}
use Rattle.std.specs.List.{concat}
use Rattle.warg_transparency.proofs.log_proof.LogProof.from_hashes.Given as goal

abbrev pub invariant-loop-hash : goal.invariant-loop-hash
invariant-loop-hash l = (l.hash-index ≤ length l.hashes) × (l.bytes.items ≡ concat (take l.hash-index l.hashes))
