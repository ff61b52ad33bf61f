use Rattle.std.proofs.Common.{◌≡◌, ◌++◌, ◌∙◌, List, ℕ, ap, length}
use Rattle.warg_crypto.specs.HashText.{hash_text}
use Rattle.warg_c.proofs.exports.registries.roots_of.Goals as goal

pub returns : goal.returns
returns c =
    let front : c.into_bytes.result.items ≡ hash_text c.checkpoint-checkpoint.result.log_root = ap (λ v. v.items) c.into_bytes.ensures.value ∙ c.in_ok-log_root.ensures.ok in
    let behind : c.as_bytes-behind.result.now ≡ hash_text c.checkpoint-checkpoint.result.map_root = c.as_bytes-behind.ensures.value ∙ c.in_ok-map_root.ensures.ok in
    record {
      log = c.checkpoint-checkpoint.result.log_root;
      map = c.checkpoint-checkpoint.result.map_root;
      log_root = c.checkpoint-checkpoint.ensures.log_root;
      map_root = c.checkpoint-checkpoint.ensures.map_root;
      text_is = c.in_ok-text.ensures ∙ ap (λ (t : List ℕ). t ++ c.as_bytes-behind.result.now) front ∙ ap (λ t. hash_text c.checkpoint-checkpoint.result.log_root ++ t) behind;
      log_root_len = ap length (c.as_bytes.ensures.value ∙ c.in_ok-log_root.ensures.ok);
      map_root_len = ap length behind;
    }
