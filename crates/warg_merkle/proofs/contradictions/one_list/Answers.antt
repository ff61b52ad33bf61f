use Rattle.sha2.specs.Sha256.{sha256}
use Rattle.sha2.proofs.Facts256.{length-sha256}
use Rattle.warg_merkle.proofs.Contradicting.{own_leaf, one_list}
use Rattle.warg_merkle.proofs.contradictions.one_list.Goals as goal

pub returns : goal.returns
returns c = record { own = own_leaf sha256 length-sha256; one = one_list sha256 length-sha256 }
