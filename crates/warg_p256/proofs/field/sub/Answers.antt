use Rattle.std.proofs.Common.{◌<◌, sym, subst}
use Rattle.warg_modular.specs.Value.{value}
use Rattle.warg_p256.proofs.FieldElements.{p_is, number_minus}
use Rattle.warg_p256.proofs.field.sub.Goals as goal

pub difference-requires : goal.difference-requires
difference-requires c = (subst (λ q. value c.args.a.words < q) (sym p_is) c.args.a.reduced, subst (λ q. value c.args.b.words < q) (sym p_is) c.args.b.reduced)

pub invariant_of-result : goal.invariant_of-result
invariant_of-result c = record { reduced = subst (λ q. value c.difference.result < q) p_is c.difference.ensures.below }

pub returns : goal.returns
returns c = number_minus c.difference.result c.args.a.words c.args.b.words _ p_is c.args.a.reduced c.difference.ensures.difference
