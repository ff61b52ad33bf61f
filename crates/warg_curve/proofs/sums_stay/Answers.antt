use Rattle.warg_curve.proofs.OnCurve.{add_on_curve}
use Rattle.warg_curve.proofs.sums_stay.Goals as goal

pub returns : goal.returns
returns c = add_on_curve
