use Rattle.warg_crypto.proofs.PrefixLemmas.{IsLeb128-unsigned_of}
use Rattle.warg_crypto.proofs.laws.unsigned_is_leb128.Goals as goal

pub returns : goal.returns
returns c = IsLeb128-unsigned_of
