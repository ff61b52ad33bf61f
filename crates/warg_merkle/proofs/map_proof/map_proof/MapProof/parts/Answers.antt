use Rattle.std.proofs.Common.{◌≡◌, ◌/◌, ℕ, List, length, take, drop, ◌∙◌, ap}
use Rattle.std.specs.Simd.{first_chunks}
use Rattle.sha2.specs.Sha256.{sha256}
use Rattle.warg_merkle.specs.MapProof.ShortForms.{others_in}
use Rattle.warg_merkle.proofs.MapProofLemmas.Forms.{short_parts}
use Rattle.warg_merkle.proofs.map_proof.map_proof.MapProof.parts.Goals as goal

pub returns-clause-parts : goal.returns-clause-parts
returns-clause-parts c =
    let (front, back, size) = c.in-Some.ensures.cases in
    let bytes = c.self.inside.bytes.items in
    let is = c.deref.ensures.value in
    let bits : c.in-Some.left_out.now ≡ take 32 bytes = front ∙ ap (take 32) is in
    let rest : c.in-Some.rest.now ≡ drop 32 bytes = back ∙ ap (drop 32) is in
    let others : c.as_chunks.result.0.now ≡ others_in bytes = c.as_chunks.ensures.front ∙ ap (λ (r : List ℕ). first_chunks 32 (length r / 32) r) rest in
    rw (bits, others) (short_parts sha256 bytes c.self.invariant)
