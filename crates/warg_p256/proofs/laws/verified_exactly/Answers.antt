use Rattle.warg_p256.proofs.Tests.{is_verified_decides}
use Rattle.warg_p256.proofs.laws.verified_exactly.Goals as goal

pub returns : goal.returns
returns c = is_verified_decides
