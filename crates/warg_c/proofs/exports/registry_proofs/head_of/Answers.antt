use Rattle.std.proofs.Common.{◌≡◌, ◌++◌, ◌∙◌, List, ℕ, sym, ap, length}
use Rattle.warg_transparency.specs.Texts.{map_proof_of, map_proof_text}
use Rattle.warg_c.specs.Registries.{head_text}
use Rattle.warg_c.proofs.RegistryTexts.{shows_head}
use Rattle.warg_c.proofs.exports.registry_proofs.head_of.Goals as goal

pub returns : goal.returns
returns c =
    let path : List (List ℕ) = c.in_ok-proof.proof in
    let behind : c.as_bytes-behind.result.now ≡ map_proof_text path = c.as_bytes-behind.ensures.value ∙ c.in_ok-told.ensures.value in
    record {
      head = c.head-head.result;
      path = path;
      is_head = c.head-head.ensures;
      is_proof = c.in_ok-proof.ensures;
      text_is = c.in_ok-text.ensures ∙ ap (λ (t : List ℕ). t ++ c.as_bytes-behind.result.now) c.in_ok-id.ensures ∙ ap (λ t. head_text c.head-head.result ++ t) behind;
      reads_back = ap map_proof_of (sym c.in_ok-told.ensures.value) ∙ c.in_ok-told.ensures.reads_back;
      shows = shows_head c.args.held.now.trees c.args.log_id.now c.head-head.result path c.head-head.ensures c.in_ok-proof.ensures;
      record_id_len = ap length (c.as_slice.ensures.value ∙ c.in_ok-id.ensures);
      proof_len = ap length behind;
    }
