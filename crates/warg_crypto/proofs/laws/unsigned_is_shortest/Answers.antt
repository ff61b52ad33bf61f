use Rattle.warg_crypto.proofs.PrefixLemmas.{unsigned_of-shortest}
use Rattle.warg_crypto.proofs.laws.unsigned_is_shortest.Goals as goal

pub returns : goal.returns
returns c = unsigned_of-shortest
