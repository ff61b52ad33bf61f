use Rattle.sha2.specs.Sha256.{sha256}
use Rattle.sha2.proofs.Facts256.{length-sha256}
use Rattle.warg_merkle.proofs.Consistent.{consistent_or_collision}
use Rattle.warg_merkle.proofs.Extending.{with_start_long}
use Rattle.warg_merkle.proofs.Sound as log
use Rattle.warg_merkle.proofs.SparseMapLemmas.Owning as map
use Rattle.warg_registry.specs.PrefixEncodings.{log_leaf_encoding_of}
use Rattle.warg_transparency.proofs.laws.accepted_proofs.Goals as goal

pub returns-clause-inclusion : goal.returns-clause-inclusion
returns-clause-inclusion c = λ leaf index size proof root few hashes includes. log.own_or_collision sha256 length-sha256 (log_leaf_encoding_of leaf) index size proof root.bytes hashes few includes

pub returns-clause-consistency : goal.returns-clause-consistency
returns-clause-consistency c = λ old new proof few long hashes goes_on entries is.
    consistent_or_collision sha256 length-sha256 old.log_length new.log_length proof old.log_root.bytes new.log_root.bytes (with_start_long sha256 old.log_length old.log_root.bytes proof long hashes) few goes_on entries is.size is.root

pub returns-clause-map : goal.returns-clause-map
returns-clause-map c = λ log_id value proof root hashes leads. map.own_or_collision sha256 length-sha256 value log_id.hash.bytes proof root.bytes hashes leads
