use Rattle.warg_p256.proofs.FieldElements.{zero_from_number, number_from_zero}
use Rattle.warg_p256.proofs.field.is_zero.Goals as goal

pub returns : goal.returns
returns c = (λ h. number_from_zero c.args.a.words (c.is_zero.ensures.0 h), λ h. c.is_zero.ensures.1 (zero_from_number c.args.a.words c.args.a.reduced h))
