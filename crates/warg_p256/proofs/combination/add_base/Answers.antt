use Rattle.std.proofs.Common.{sym, subst, ap, ◌∙◌}
use Rattle.warg_curve.specs.Curve.{add, base}
use Rattle.warg_curve.specs.Group.{multiple}
use Rattle.warg_p256.specs.Rows.{Stands}
use Rattle.warg_curve.proofs.CurveFacts.{add_right}
use Rattle.warg_curve.proofs.GroupMultiples.{multiple_zero}
use Rattle.warg_p256.proofs.combination.add_base.Goals as goal

pub returns-then-n-eq0 : goal.returns-then-n-eq0
returns-then-n-eq0 c = λ a s. subst (λ p. Stands c.args.p p) (sym (ap (λ n. add a (multiple n base)) c.if-n-eq0.true ∙ ap (λ p. add a p) (multiple_zero base) ∙ add_right a)) s
