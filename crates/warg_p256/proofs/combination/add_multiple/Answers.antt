use Rattle.std.proofs.Common.{sym, subst, ap, ◌∙◌, arith}
use Rattle.warg_curve.specs.Curve.{add}
use Rattle.warg_curve.specs.Group.{multiple}
use Rattle.warg_p256.specs.Rows.{Stands}
use Rattle.warg_curve.proofs.CurveFacts.{add_right}
use Rattle.warg_curve.proofs.GroupMultiples.{multiple_zero}
use Rattle.warg_p256.proofs.Combinations.{row_is}
use Rattle.warg_p256.proofs.combination.add_multiple.Goals as goal

pub returns-then-n-eq0 : goal.returns-then-n-eq0
returns-then-n-eq0 c = λ a q h s t. subst (λ p. Stands c.args.p p) (sym (ap (λ n. add a (multiple n q)) c.if-n-eq0.true ∙ ap (λ p. add a p) (multiple_zero q) ∙ add_right a)) s

pub returns : goal.returns
returns c = λ a q h s t. c.add_jacobian.ensures a (multiple c.args.n q) s (row_is q c.args.table.now c.args.n c.index-table-n.result t (omega (arith, c.told-table)))
