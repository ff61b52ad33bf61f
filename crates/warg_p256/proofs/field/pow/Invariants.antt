use Rattle.std.proofs.Common.{◌/◌, ◌^◌}
use Rattle.warg_primes.proofs.Congruent.{Same}
use Rattle.warg_modular.specs.Value.{value}
use Rattle.warg_curve.specs.Field.{prime}
use Rattle.warg_p256.specs.Elements.{number}
use Rattle.warg_p256.proofs.field.pow.Given as goal

abbrev pub invariant-loop-i : goal.invariant-loop-i
invariant-loop-i l = Same prime (number l.r.words) (number l.a.words ^ (value l.exponent / 2 ^ l.i))
