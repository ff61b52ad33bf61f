use Rattle.std.proofs.Common.{◌<◌, sym, subst}
use Rattle.warg_modular.specs.Value.{value}
use Rattle.warg_p256.proofs.FieldElements.{p_is, number_times}
use Rattle.warg_p256.proofs.field.mul.Goals as goal

pub mul-requires-clause-below : goal.mul-requires-clause-below
mul-requires-clause-below c = subst (λ q. value c.args.b.words < q) (sym p_is) c.args.b.reduced

pub invariant_of-result : goal.invariant_of-result
invariant_of-result c = record { reduced = subst (λ q. value c.mul.result < q) p_is c.mul.ensures.below }

pub returns : goal.returns
returns c = number_times c.mul.result c.args.a.words c.args.b.words _ p_is c.mul.ensures.product
