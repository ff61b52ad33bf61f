use Rattle.std.proofs.Common.{lit<}
use Rattle.warg_modular.specs.Value.{value}
use Rattle.warg_p256.proofs.FieldElements.{p_is, one_is, value_from_montgomery}
use Rattle.warg_p256.proofs.field.from_montgomery.Goals as goal

pub returns : goal.returns
returns c = value_from_montgomery c.mul.result c.args.a.words _ _ p_is one_is c.mul.ensures.below c.mul.ensures.product

pub mul-requires-clause-below : goal.mul-requires-clause-below
unfolding value
mul-requires-clause-below c = lit< tt
