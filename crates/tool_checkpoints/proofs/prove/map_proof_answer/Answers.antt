use Rattle.std.proofs.Common.{◌≡◌, ℕ, Ok, string_bytes, sym, refl, ◌∙◌, ap}
use Rattle.base64.specs.Engines.{standard}
use Rattle.base64.specs.GeneralPurpose.{encode_of}
use Rattle.warg_transparency.proofs.TextLemmas.{map_text_back}
use Rattle.warg_transparency.specs.Texts.{map_proof_of}
use Rattle.tool_checkpoints.proofs.prove.map_proof_answer.Goals as goal

pub returns-clause-reads_back : goal.returns-clause-reads_back
returns-clause-reads_back c =
    let text = c.in_ok-text.text in
    let bytes = c.as_bytes.result.now in
    let back : map_proof_of (string_bytes text) ≡ Ok c.args.proof.now =
    map_text_back {E = ℕ} string_bytes (Ok text) bytes c.args.proof.now c.in_ok-text.ensures.text (c.in_ok-text.ensures.round_trip refl) c.as_bytes.ensures.few c.as_bytes.ensures.reads_back in
    ap map_proof_of (ap (encode_of standard) (sym c.as_bytes.ensures.value) ∙ sym c.in_ok-text.ensures.text) ∙ back
