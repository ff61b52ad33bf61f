use Rattle.std.proofs.Common.{◌<◌, sym, subst}
use Rattle.warg_modular.specs.Value.{value}
use Rattle.warg_p256.proofs.FieldElements.{n_is}
use Rattle.warg_p256.proofs.Scalars.{scalar_times, plain_times}
use Rattle.warg_p256.proofs.scalar.mul.Goals as goal

pub mul-requires-clause-below : goal.mul-requires-clause-below
mul-requires-clause-below c = subst (λ q. value c.args.b.words < q) (sym n_is) c.args.b.reduced

pub invariant_of-result : goal.invariant_of-result
invariant_of-result c = record { reduced = subst (λ q. value c.mul.result < q) n_is c.mul.ensures.below }

pub returns-clause-form : goal.returns-clause-form
returns-clause-form c = scalar_times c.mul.result c.args.a c.args.b.words _ n_is c.mul.ensures.product

pub returns-clause-plain : goal.returns-clause-plain
returns-clause-plain c = plain_times c.mul.result c.args.a c.args.b.words _ n_is c.mul.ensures.below c.mul.ensures.product
