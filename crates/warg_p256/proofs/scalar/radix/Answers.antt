use Rattle.std.proofs.Common.{lit<}
use Rattle.warg_modular.specs.Value.{value}
use Rattle.warg_curve.specs.Order.{order}
use Rattle.warg_p256.proofs.Scalars.{square_number}
use Rattle.warg_p256.proofs.scalar.radix.Goals as goal

pub invariant_of-result : goal.invariant_of-result
unfolding value order
invariant_of-result c = record { reduced = lit< tt }

pub returns : goal.returns
returns c = square_number
