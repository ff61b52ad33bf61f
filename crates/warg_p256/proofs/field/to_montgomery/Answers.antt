use Rattle.std.proofs.Common.{◌<◌, subst, lit<}
use Rattle.warg_modular.specs.Value.{value}
use Rattle.warg_p256.proofs.FieldElements.{p_is, number_to_montgomery}
use Rattle.warg_p256.proofs.field.to_montgomery.Goals as goal

pub invariant_of-result : goal.invariant_of-result
invariant_of-result c = record { reduced = subst (λ q. value c.mul.result < q) p_is c.mul.ensures.below }

pub returns : goal.returns
returns c = number_to_montgomery c.mul.result c.args.a _ p_is c.mul.ensures.product

pub mul-requires-clause-below : goal.mul-requires-clause-below
unfolding value
mul-requires-clause-below c = lit< tt
