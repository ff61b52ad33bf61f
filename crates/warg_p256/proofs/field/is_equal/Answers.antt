use Rattle.warg_p256.proofs.FieldElements.{same_from_number, number_from_same}
use Rattle.warg_p256.proofs.field.is_equal.Goals as goal

pub returns : goal.returns
returns c = (λ h. number_from_same c.args.a.words c.args.b.words (c.is_equal.ensures.0 h), λ h. c.is_equal.ensures.1 (same_from_number c.args.a.words c.args.b.words c.args.a.reduced c.args.b.reduced h))
