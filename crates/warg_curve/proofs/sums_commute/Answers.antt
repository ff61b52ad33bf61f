use Rattle.warg_curve.proofs.Opposites.{add_commutes}
use Rattle.warg_curve.proofs.sums_commute.Goals as goal

pub returns : goal.returns
returns c = add_commutes
