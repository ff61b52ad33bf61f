use Rattle.std.proofs.Common.{◌≡◌, ◌+◌, ◌<◌, arith}
use Rattle.warg_modular.specs.Value.{value}
use Rattle.warg_curve.specs.Field.{prime}
use Rattle.warg_curve.specs.Order.{order}
use Rattle.warg_p256.proofs.FieldElements.{n_is, number_below}
use Rattle.warg_p256.proofs.AddedPoint.{not_zero}
use Rattle.warg_p256.proofs.Signatures.{first_x, gap_x, second_x, gap_is, not_equal, not_less, no_carry}
use Rattle.warg_p256.proofs.signature.has_x.Goals as goal

pub returns-then-is_equal : goal.returns-then-is_equal
returns-then-is_equal c = first_x _ _ _ _ _ (value c.args.r) _ (not_zero _ _ c.is_zero.ensures c.if-is_zero.false) c.square-zz.ensures c.to_montgomery.ensures c.requires c.mul-first.ensures (number_below c.args.p.z.words) (c.is_equal.ensures.0 c.if-is_equal.true)

pub returns-then-not-is_less : goal.returns-then-not-is_less
returns-then-not-is_less c = gap_x _ _ _ _ _ (value c.args.r) _ _ (not_zero _ _ c.is_zero.ensures c.if-is_zero.false) c.square-zz.ensures c.to_montgomery.ensures c.requires c.mul-first.ensures (number_below c.args.p.z.words) (not_equal _ _ _ c.is_equal.ensures c.if-is_equal.false) gap_is (not_less _ _ _ c.is_less.ensures c.if-not-is_less.true)

pub returns : goal.returns
returns c =
    let small = c.is_less.ensures.0 c.if-not-is_less.false in
    let more : value c.add.result.0 ≡ value c.args.r + order = no_carry _ _ _ _ c.add.result.1 c.add.ensures.total n_is gap_is small in
    let low : value c.add.result.0 < prime = omega (arith, gap_is, small, more) in
    second_x _ _ _ _ _ (value c.args.r) _ _ (value c.add.result.0) _ c.is_equal-2.result (not_zero _ _ c.is_zero.ensures c.if-is_zero.false) c.square-zz.ensures c.to_montgomery.ensures c.requires c.mul-first.ensures (number_below c.args.p.z.words) (not_equal _ _ _ c.is_equal.ensures c.if-is_equal.false) c.to_montgomery-2.ensures more low c.mul-second.ensures c.is_equal-2.ensures
