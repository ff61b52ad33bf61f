use Rattle.std.proofs.Common.{◌<◌, sym, subst}
use Rattle.warg_modular.specs.Value.{value}
use Rattle.warg_p256.proofs.FieldElements.{p_is, number_plus}
use Rattle.warg_p256.proofs.field.add.Goals as goal

pub sum-requires : goal.sum-requires
sum-requires c = (subst (λ q. value c.args.a.words < q) (sym p_is) c.args.a.reduced, subst (λ q. value c.args.b.words < q) (sym p_is) c.args.b.reduced)

pub invariant_of-result : goal.invariant_of-result
invariant_of-result c = record { reduced = subst (λ q. value c.sum.result < q) p_is c.sum.ensures.below }

pub returns : goal.returns
returns c = number_plus c.sum.result c.args.a.words c.args.b.words _ p_is c.sum.ensures.sum
