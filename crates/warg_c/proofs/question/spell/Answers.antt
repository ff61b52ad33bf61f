use Rattle.std.proofs.Common.{ap, sym, ◌∙◌, subst}
use Rattle.std.specs.Str.{IsUtf8}
use Rattle.warg_crypto.specs.Keys.{public_key_of, signature_of}
use Rattle.warg_c.proofs.Cuts.{spelled-if}
use Rattle.warg_c.proofs.question.spell.Goals as goal

pub returns : goal.returns
returns c =
    let key = c.as_bytes.ensures.value in let signature = c.as_bytes-2.ensures.value in
    spelled-if (λ p. p.0.items) (λ p. p.1) c.args.question.now c.as_bytes.result.now c.as_slice-message.result.now c.as_bytes-2.result.now c.join.result c.join.ensures.text c.join.ensures.lengths
    (key ∙ c.in_ok-key.ensures.text) (signature ∙ c.in_ok-signature.ensures.text)
    (subst (λ l. IsUtf8 l) (sym key) c.in_ok-key.ensures.utf8) (ap (λ l. public_key_of l) key ∙ c.in_ok-key.ensures.back) (sym c.as_slice-message.ensures.value)
    (subst (λ l. IsUtf8 l) (sym signature) c.in_ok-signature.ensures.utf8) (ap (λ l. signature_of l) signature ∙ c.in_ok-signature.ensures.back)
