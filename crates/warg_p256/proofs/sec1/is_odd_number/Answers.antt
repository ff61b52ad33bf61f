use Rattle.warg_p256.proofs.Roots.{parity_is}
use Rattle.warg_p256.proofs.sec1.is_odd_number.Goals as goal

pub returns : goal.returns
returns c = parity_is c.from_montgomery.result _ c.from_montgomery.ensures
