use Rattle.std.proofs.Common.{sym}
use Rattle.warg_curve.proofs.OnCurve.{add_itself}
use Rattle.warg_curve.proofs.doubles_are_sums.Goals as goal

pub returns : goal.returns
returns c = λ p h. sym (add_itself p h)
