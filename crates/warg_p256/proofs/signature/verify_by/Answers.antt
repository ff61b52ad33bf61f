use Rattle.std.proofs.Common.{◌%◌, ◌^◌, ap, ◌∙◌}
use Rattle.warg_modular.specs.BigEndian.{big_endian}
use Rattle.warg_p256.proofs.Verified.{verified}
use Rattle.warg_p256.proofs.signature.verify_by.Goals as goal

pub returns-in_default : goal.returns-in_default
returns-in_default c = λ key k. (λ f. absurd (cc), λ g. absurd (c.in_default.ensures.none g.r g.s g.der_is))

pub returns : goal.returns
returns c = λ key k. verified _ _ _ _ _ _ _ _ c.accepts.result k c.in-Some.ensures.some
    (c.from_be_bytes.ensures ∙ ap (λ t. big_endian t % 2 ^ 256) (c.as_slice.ensures ∙ c.digest-hash.ensures)) c.accepts.ensures
