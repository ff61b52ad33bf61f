use Rattle.warg_crypto.proofs.PrefixLemmas.{unsigned_of-same}
use Rattle.warg_crypto.proofs.laws.unsigned_is_no_beginning.Goals as goal

pub returns : goal.returns
returns c = unsigned_of-same
