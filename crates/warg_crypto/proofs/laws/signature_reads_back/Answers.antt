use Rattle.warg_crypto.specs.NamedBytesLaws.{signature_of-named_bytes_text}
use Rattle.warg_crypto.proofs.laws.signature_reads_back.Goals as goal

pub returns : goal.returns
returns c = signature_of-named_bytes_text
