use Rattle.std.proofs.Common.{ap, ◌∙◌}
use Rattle.std.specs.Int.{from_bool}
use Rattle.warg_p256.specs.Elements.{number}
use Rattle.warg_p256.proofs.FieldElements.{number_below}
use Rattle.warg_p256.proofs.Roots.{negative_square, no_parity, same_bool, other_bool}
use Rattle.warg_p256.proofs.sec1.with_parity.Goals as goal

pub returns-then-is_odd_number-is_odd-2-clause-some : goal.returns-then-is_odd_number-is_odd-2-clause-some
returns-then-is_odd_number-is_odd-2-clause-some c = (
  negative_square (number c.args.y.words) _ _ (number_below c.args.y.words) c.zero.ensures c.sub-z.ensures,
  c.is_odd_number-2.ensures ∙ ap from_bool (same_bool _ _ c.if-is_odd_number-is_odd-2.true),
)

pub returns-clause-none : goal.returns-clause-none
returns-clause-none c = no_parity (number c.args.y.words) _ _ _ _ _ (number_below c.args.y.words) c.zero.ensures c.sub-z.ensures c.is_odd_number.ensures c.is_odd_number-2.ensures (other_bool _ _ c.if-is_odd_number-is_odd.false) (other_bool _ _ c.if-is_odd_number-is_odd-2.false)
