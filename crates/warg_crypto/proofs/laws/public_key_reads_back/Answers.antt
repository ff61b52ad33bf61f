use Rattle.warg_crypto.specs.NamedBytesLaws.{public_key_of-named_bytes_text}
use Rattle.warg_crypto.proofs.laws.public_key_reads_back.Goals as goal

pub returns : goal.returns
returns c = public_key_of-named_bytes_text
