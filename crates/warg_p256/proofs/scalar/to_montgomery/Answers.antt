use Rattle.std.proofs.Common.{lit<}
use Rattle.warg_modular.specs.Value.{value}
use Rattle.warg_curve.specs.Order.{order}
use Rattle.warg_p256.proofs.Scalars.{scalar_to_montgomery}
use Rattle.warg_p256.proofs.scalar.to_montgomery.Goals as goal

pub invariant_of-mul : goal.invariant_of-mul
unfolding value order
invariant_of-mul c = record { reduced = lit< tt }

pub returns : goal.returns
returns c = scalar_to_montgomery c.mul.result.words c.args.a c.mul.ensures.form
