use Rattle.std.proofs.Common.{◌∙◌, ap, sym, arith}
use Rattle.warg_curve.specs.Field.{times}
use Rattle.warg_curve.specs.Group.{IsOnCurve, right_side_of}
use Rattle.warg_p256.proofs.Signatures.{not_equal}
use Rattle.warg_p256.proofs.FieldElements.{number_below}
use Rattle.warg_p256.proofs.sec1.uncompressed.Goals as goal

pub returns-clause-some : goal.returns-clause-some
unfolding IsOnCurve
returns-clause-some c = record {
  length_is = omega arith;
  tag_is = omega arith;
  x_is = sym c.in_ok-x.ensures.some;
  y_is = sym c.in_ok-y.ensures.some;
  on_curve = (number_below c.in_ok-x.x.words, number_below c.in_ok-y.y.words, sym c.square.ensures ∙ c.is_equal.ensures.0 c.if-not-is_equal.false ∙ c.right_side.ensures);
}

pub returns-in_err-x-clause-none : goal.returns-in_err-x-clause-none
unfolding IsOnCurve
returns-in_err-x-clause-none c = rw c.from_residual.ensures (λ x y g. omega (arith, c.in_err-x.ensures.none, g.x_is, g.on_curve.0))

pub returns-in_err-y-clause-none : goal.returns-in_err-y-clause-none
unfolding IsOnCurve
returns-in_err-y-clause-none c = rw c.from_residual-in_err-y.ensures (λ x y g. omega (arith, c.in_err-y.ensures.none, g.y_is, g.on_curve.1))

pub returns-then-not-is_equal-clause-none : goal.returns-then-not-is_equal-clause-none
unfolding IsOnCurve
returns-then-not-is_equal-clause-none c = λ x y g.
    let ex = sym g.x_is ∙ sym c.in_ok-x.ensures.some in
    let ey = sym g.y_is ∙ sym c.in_ok-y.ensures.some in
    not_equal _ _ _ c.is_equal.ensures c.if-not-is_equal.true
    (c.square.ensures ∙ sym (ap (λ v. times v v) ey) ∙ g.on_curve.2 ∙ ap right_side_of ex ∙ sym c.right_side.ensures)
