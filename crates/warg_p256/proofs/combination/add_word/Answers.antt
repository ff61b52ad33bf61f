use Rattle.std.proofs.Common.{subst, arith}
use Rattle.warg_curve.specs.Curve.{Point}
use Rattle.warg_curve.specs.Group.{IsOnCurve}
use Rattle.warg_p256.specs.Rows.{Stands}
use Rattle.warg_p256.proofs.Combinations.{partial_sum, partial_first, partial_more, partial_last, partial_on_curve}
use Rattle.warg_p256.proofs.combination.add_word.Goals as goal

pub loop-i-init : goal.loop-i-init
loop-i-init c = λ a q ha hq s t. subst (λ p. Stands c.args.p p) (partial_first a q c.args.k c.args.l (omega arith) (omega arith)) s

pub loop-i-preserved : goal.loop-i-preserved
loop-i-preserved c = λ a q ha hq s t.
    let before : Point = partial_sum a q c.args.k c.args.l c.loop-i.i in
    let on_curve : IsOnCurve before = partial_on_curve a q c.args.k c.args.l c.loop-i.i ha hq in
    subst (λ p. Stands c.add_base-r.result p) (partial_more a q c.args.k c.args.l c.loop-i.i (omega arith) (omega arith) ha hq)
    (c.add_base-r.ensures _ (c.add_digit-r.ensures before q on_curve hq (c.loop-i.invariant a q ha hq s t) t))

pub returns : goal.returns
returns c = λ a q ha hq s t. subst (λ p. Stands c.loop-i.r p) (partial_last a q c.args.k c.args.l c.loop-i.i (omega arith)) (c.loop-i.invariant a q ha hq s t)
