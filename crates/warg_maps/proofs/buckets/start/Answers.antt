use Rattle.std.proofs.Common.{refl}
use Rattle.warg_maps.specs.Buckets.{start_of}
use Rattle.warg_maps.proofs.buckets.start.Goals as goal

pub returns-clause-value : goal.returns-clause-value
unfolding start_of
returns-clause-value c = refl
