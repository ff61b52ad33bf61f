use Rattle.std.proofs.Common.{refl}
use Rattle.warg_merkle.specs.SparseMap.Maps.{is_right}
use Rattle.warg_merkle.proofs.sparse_map.entries.is_right.Goals as goal

pub returns : goal.returns
unfolding is_right
returns c = refl
