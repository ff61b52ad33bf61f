use Rattle.warg_curve.proofs.CurveFacts.{add_right}
use Rattle.warg_curve.proofs.OnCurve.{negative_on_curve, add_negative}
use Rattle.warg_curve.proofs.sums_have_inverses.Goals as goal

pub returns-clause-infinity : goal.returns-clause-infinity
returns-clause-infinity c = add_right

pub returns-clause-negatives : goal.returns-clause-negatives
returns-clause-negatives c = λ p h. (negative_on_curve p h, add_negative p h)
