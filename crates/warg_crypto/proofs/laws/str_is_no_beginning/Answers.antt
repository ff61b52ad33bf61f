use Rattle.warg_crypto.proofs.PrefixLemmas.{str_of-same}
use Rattle.warg_crypto.proofs.laws.str_is_no_beginning.Goals as goal

pub returns : goal.returns
returns c = str_of-same
