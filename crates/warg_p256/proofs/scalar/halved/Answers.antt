use Rattle.std.proofs.Common.{◌<◌, sym, subst}
use Rattle.warg_modular.specs.Value.{value}
use Rattle.warg_p256.proofs.FieldElements.{n_is}
use Rattle.warg_p256.proofs.Scalars.{scalar_half}
use Rattle.warg_p256.proofs.scalar.halved.Goals as goal

pub halved-requires-clause-below : goal.halved-requires-clause-below
halved-requires-clause-below c = subst (λ q. value c.args.a.words < q) (sym n_is) c.args.a.reduced

pub invariant_of-result : goal.invariant_of-result
invariant_of-result c = record { reduced = subst (λ q. value c.halved.result < q) n_is c.halved.ensures.below }

pub returns : goal.returns
returns c = scalar_half c.halved.result c.args.a.words _ n_is c.halved.ensures.half
