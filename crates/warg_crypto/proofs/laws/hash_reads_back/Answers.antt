use Rattle.warg_crypto.specs.HashTextLaws.{hash_of-hash_text}
use Rattle.warg_crypto.proofs.laws.hash_reads_back.Goals as goal

pub returns : goal.returns
returns c = hash_of-hash_text
