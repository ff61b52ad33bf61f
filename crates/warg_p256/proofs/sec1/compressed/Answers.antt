use Rattle.std.proofs.Common.{◌∙◌, ap, sym, arith}
use Rattle.warg_curve.specs.Group.{IsOnCurve, right_side_of}
use Rattle.warg_p256.proofs.FieldElements.{number_below}
use Rattle.warg_p256.proofs.sec1.compressed.Goals as goal

pub returns-clause-some : goal.returns-clause-some
unfolding IsOnCurve
returns-clause-some c = record {
  length_is = omega arith;
  tag_is = omega (arith, c.in_ok-is_odd.ensures.some, c.in_ok-y.ensures.some.1);
  x_is = sym c.in_ok-x.ensures.some;
  on_curve = (number_below c.in_ok-x.x.words, number_below c.in_ok-y.y.words, c.in_ok-y.ensures.some.0 ∙ c.in_ok-any.ensures.some ∙ c.right_side.ensures);
}

pub returns-in_err-x-clause-none : goal.returns-in_err-x-clause-none
unfolding IsOnCurve
returns-in_err-x-clause-none c = rw c.from_residual-in_err-x.ensures (λ x y g. omega (arith, c.in_err-x.ensures.none, g.x_is, g.on_curve.0))

pub returns-in_err-any-clause-none : goal.returns-in_err-any-clause-none
unfolding IsOnCurve
returns-in_err-any-clause-none c = rw c.from_residual-in_err-any.ensures (λ x y g.
    let ex = sym g.x_is ∙ sym c.in_ok-x.ensures.some in
    c.in_err-any.ensures.none y g.on_curve.1 (g.on_curve.2 ∙ ap right_side_of ex ∙ sym c.right_side.ensures))

pub returns-in_err-y-clause-none : goal.returns-in_err-y-clause-none
unfolding IsOnCurve
returns-in_err-y-clause-none c = rw c.from_residual-in_err-y.ensures (λ x y g.
    let ex = sym g.x_is ∙ sym c.in_ok-x.ensures.some in
    c.in_err-y.ensures.none y g.on_curve.1 (g.on_curve.2 ∙ ap right_side_of ex ∙ sym c.right_side.ensures ∙ sym c.in_ok-any.ensures.some) (omega (arith, g.tag_is, c.in_ok-is_odd.ensures.some)))
