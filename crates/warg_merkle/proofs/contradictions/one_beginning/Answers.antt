use Rattle.sha2.specs.Sha256.{sha256}
use Rattle.sha2.proofs.Facts256.{length-sha256}
use Rattle.warg_merkle.proofs.Contradicting.{one_beginning}
use Rattle.warg_merkle.proofs.contradictions.one_beginning.Goals as goal

pub returns : goal.returns
returns c = one_beginning sha256 length-sha256
