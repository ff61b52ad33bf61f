use Rattle.std.proofs.Common.{◌≡◌, ◌/◌, ◌%◌, ℕ, List, length, sym, ◌∙◌, ap, arith}
use Rattle.std.specs.List.{concat}
use Rattle.std.specs.Simd.{first_chunks}
use Rattle.warg_merkle.proofs.MapProofLemmas.Chunks.{concat-chunks}
use Rattle.warg_transparency.proofs.log_proof.LogProofDisplay.fmt.Goals as goal

flat : (hashes : List (List ℕ)) (bytes : List ℕ) → length bytes % 32 ≡ 0 → first_chunks 32 (length bytes / 32) bytes ≡ hashes → concat hashes ≡ bytes
flat hashes bytes whole is = ap concat (sym is) ∙ concat-chunks (length bytes / 32) bytes (omega arith)

pub returns-clause-writes : goal.returns-clause-writes
returns-clause-writes g c = rw (flat c.args.self.now c.self.inside.bytes.items c.self.invariant.0 c.self.view_is ∙ sym c.as_slice.ensures.value) c.write_base64.ensures.writes

pub returns-clause-styled : goal.returns-clause-styled
returns-clause-styled g c = rw (flat c.args.self.now c.self.inside.bytes.items c.self.invariant.0 c.self.view_is ∙ sym c.as_slice.ensures.value) c.write_base64.ensures.styled
