use Rattle.warg_curve.proofs.Associative.{add_associates}
use Rattle.warg_curve.proofs.sums_associate.Goals as goal

pub returns : goal.returns
returns c = add_associates
