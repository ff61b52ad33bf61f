use lib.Bits.{and_mask}
use Rattle.warg_maps.proofs.index.low_half.Goals as goal

pub returns : goal.returns
returns c = and_mask _ 32
