use Rattle.std.proofs.Common.{◌<◌, sym, subst}
use Rattle.warg_modular.specs.Value.{value}
use Rattle.warg_p256.proofs.FieldElements.{p_is, number_times}
use Rattle.warg_p256.proofs.field.square.Goals as goal

pub square-requires-clause-below : goal.square-requires-clause-below
square-requires-clause-below c = subst (λ q. value c.args.a.words < q) (sym p_is) c.args.a.reduced

pub invariant_of-result : goal.invariant_of-result
invariant_of-result c = record { reduced = subst (λ q. value c.square.result < q) p_is c.square.ensures.below }

pub returns : goal.returns
returns c = number_times c.square.result c.args.a.words c.args.a.words _ p_is c.square.ensures.product
