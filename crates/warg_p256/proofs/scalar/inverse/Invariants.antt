use Rattle.std.proofs.Common.{◌+◌}
use Rattle.warg_modular.specs.Value.{value}
use Rattle.warg_p256.specs.Scalars.{scalar}
use Rattle.warg_p256.proofs.Inverting.{Euclid}
use Rattle.warg_p256.proofs.scalar.inverse.Given as goal

abbrev pub invariant-loop-u : goal.invariant-loop-u
invariant-loop-u l = Euclid (value l.fn.a.words) (scalar l.fn.a.words) (value l.u) (value l.v) (scalar l.s.words) (scalar l.r.words)

abbrev pub decreases-loop-u : goal.decreases-loop-u
decreases-loop-u l = value l.u + value l.v
