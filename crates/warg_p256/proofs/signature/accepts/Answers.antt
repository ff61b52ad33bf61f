use Rattle.std.proofs.Common.{◌≡◌, ℕ, ◌*◌, ◌%◌}
use Rattle.warg_modular.specs.Value.{value}
use Rattle.warg_p256.specs.Elements.{number}
use Rattle.warg_curve.specs.Order.{order}
use Rattle.warg_p256.specs.Scalars.{scalar}
use Rattle.warg_p256.proofs.Scalars.{scalar_below}
use Rattle.warg_curve.specs.Curve.{at}
use Rattle.warg_p256.proofs.Signatures.{accepted, inverse_is}
use Rattle.warg_p256.proofs.signature.accepts.Goals as goal

pub returns : goal.returns
returns c =
    let r = c.is_scalar.ensures.0 c.if-not-is_scalar.false in
    let s = c.is_scalar-2.ensures.0 c.if-not-is_scalar-2.false in
    let w : ℕ = scalar c.inverse-w.result.words in
    let one : (value c.args.s * w) % order ≡ 1 = inverse_is (value c.args.s) _ w s.0 s.1 c.to_montgomery.ensures c.inverse-w.ensures in
    accepted (at (number c.args.q.x.words) (number c.args.q.y.words)) (value c.args.e) (value c.args.r) (value c.args.s) w _ _ c.has_x.result
    r.0 r.1 s.0 s.1 (scalar_below c.inverse-w.result.words) one c.mul-u.ensures.plain c.mul-v.ensures.plain (c.has_x.ensures _ c.combination.ensures)
