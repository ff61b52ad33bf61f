use Rattle.sha2.specs.Sha256.{sha256}
use Rattle.sha2.proofs.Facts256.{length-sha256}
use Rattle.warg_merkle.proofs.Contradicting.{one_place}
use Rattle.warg_merkle.proofs.contradictions.one_leaf.Goals as goal

pub returns : goal.returns
returns c = one_place sha256 length-sha256
