use Rattle.std.proofs.Common.{subst}
use Rattle.warg_p256.specs.Rows.{Stands}
use Rattle.warg_p256.proofs.Combinations.{sixteen_is, sixteen_flat}
use Rattle.warg_p256.proofs.combination.sixteen_times.Goals as goal

pub returns : goal.returns
returns c = λ a h s. subst (λ p. Stands c.double-4.result p) (sixteen_is a h) (c.double-4.ensures _ (c.double-3.ensures _ (c.double-2.ensures _ (c.double.ensures a s))))

pub returns-then-is_zero : goal.returns-then-is_zero
returns-then-is_zero c = λ a h s. sixteen_flat c.args.p a (c.is_zero.ensures.0 c.if-is_zero.true) s
