use native.Mathlib.Omega.{arith}
use Rattle.warg_maps.specs.NameMap.{room_of}
use Rattle.warg_maps.proofs.map.room_of.Goals as goal

pub returns : goal.returns
unfolding room_of
returns c = omega arith
