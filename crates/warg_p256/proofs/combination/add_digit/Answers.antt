use Rattle.std.proofs.Common.{◌/◌, subst}
use Rattle.warg_curve.specs.Curve.{Point, add}
use Rattle.warg_curve.specs.Group.{IsOnCurve, multiple}
use Rattle.warg_p256.specs.Rows.{Stands}
use Rattle.warg_curve.proofs.OnCurve.{add_on_curve, multiple_on_curve}
use Rattle.warg_p256.proofs.Combinations.{two_digits}
use Rattle.warg_p256.proofs.combination.add_digit.Goals as goal

pub returns : goal.returns
returns c = λ a q ha hq s t.
    let high : Point = add (multiple 16 a) (multiple (c.args.n / 16) q) in
    let on_curve : IsOnCurve high = add_on_curve _ _ (multiple_on_curve 16 a ha) (multiple_on_curve (c.args.n / 16) q hq) in
    let first = c.add_multiple-high.ensures (multiple 16 a) q hq (c.sixteen_times.ensures a ha s) t in
    subst (λ p. Stands c.add_multiple.result p) (two_digits a q c.args.n ha hq)
    (c.add_multiple.ensures (multiple 16 high) q hq (c.sixteen_times-2.ensures high on_curve first) t)
