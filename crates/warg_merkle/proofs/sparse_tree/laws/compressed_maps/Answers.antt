use Rattle.sha2.specs.Sha256.{sha256}
use Rattle.warg_merkle.proofs.SparseTreeLemmas.Whole.{whole}
use Rattle.warg_merkle.proofs.sparse_tree.laws.compressed_maps.Goals as goal

pub returns : goal.returns
returns c = λ height tree fits. whole sha256 height tree fits
