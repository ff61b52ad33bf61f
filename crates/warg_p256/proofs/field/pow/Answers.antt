use Rattle.std.proofs.Common.{arith}
use Rattle.std.proofs.Math.Nat.{div-eq_of_lt}
use Rattle.warg_modular.specs.Value.{value}
use Rattle.warg_curve.specs.Field.{prime}
use Rattle.warg_p256.proofs.FieldElements.{number_below}
use Rattle.warg_p256.proofs.Scalars.{power_start, power_even, power_odd, power_end, not_set}
use Rattle.warg_p256.proofs.field.pow.Goals as goal

pub loop-i-init : goal.loop-i-init
loop-i-init c = power_start prime _ _ _ 256 c.one-r.ensures (div-eq_of_lt c.requires)

pub loop-i-preserved : goal.loop-i-preserved
loop-i-preserved c = power_even prime _ _ _ (value c.args.exponent) c.loop-i.i c.loop-i.invariant c.square-r.ensures (omega arith) (not_set _ _ c.bit.ensures c.if-bit.false)

pub loop-i-preserved-then-bit : goal.loop-i-preserved-then-bit
loop-i-preserved-then-bit c = power_odd prime _ _ _ _ (value c.args.exponent) c.loop-i.i c.loop-i.invariant c.square-r.ensures c.mul-r.ensures (omega arith) (c.bit.ensures.0 c.if-bit.true)

pub returns : goal.returns
returns c = power_end prime _ _ (value c.args.exponent) c.loop-i.i (number_below c.loop-i.r.words) c.loop-i-test.false c.loop-i.invariant
