use Rattle.std.proofs.Common.{◌≡◌, ◌/◌, ◌%◌, length, string_bytes, refl, sym, ◌∙◌, ap, arith}
use Rattle.std.specs.List.{concat}
use Rattle.warg_merkle.proofs.MapProofLemmas.Chunks.{concat-chunks}
use Rattle.warg_transparency.proofs.TextLemmas.{log_text_back}
use Rattle.warg_transparency.proofs.log_proof.LogProof.to_text.Goals as goal

pub returns-clause-value : goal.returns-clause-value
returns-clause-value c =
    let bytes = c.self.inside.bytes.items in
    let whole : length bytes % 32 ≡ 0 = c.self.invariant.0 in
    let flat : concat c.args.self.now ≡ bytes = ap concat (sym c.self.view_is) ∙ concat-chunks (length bytes / 32) bytes (omega arith) in
    rw (flat ∙ sym c.as_slice.ensures.value) c.encode.ensures.text

pub returns-clause-reads_back : goal.returns-clause-reads_back
returns-clause-reads_back c =
    let is = c.as_slice.ensures.value in
    rw (sym c.self.view_is) (log_text_back string_bytes c.encode.result c.self.inside.bytes.items (rw (sym is) c.encode.ensures.text) (rw (sym is) (c.encode.ensures.round_trip refl)) c.self.invariant.0 c.self.invariant.1)
