use Rattle.std.proofs.Common.{lit<, refl}
use Rattle.warg_modular.specs.Value.{value}
use Rattle.warg_curve.specs.Field.{prime}
use Rattle.warg_p256.specs.Elements.{shrink, number}
use Rattle.warg_p256.proofs.field.zero.Goals as goal

pub invariant_of-result : goal.invariant_of-result
unfolding value prime
invariant_of-result c = record { reduced = lit< tt }

pub returns : goal.returns
unfolding number value shrink prime
returns c = refl
