use Rattle.sha2.specs.Sha256.{sha256}
use Rattle.warg_merkle.proofs.SparseMapLemmas.Owning.{own_leads, empty}
use Rattle.warg_merkle.proofs.SparseMapLemmas.Ways.{one_key}
use Rattle.warg_merkle.proofs.sparse_map.laws.maps.Goals as goal

pub returns : goal.returns
returns c = record {
  keys = λ key other k l. one_key key other k.long l.long k.bytes l.bytes;
  own = own_leads sha256;
  empty = empty sha256;
}
