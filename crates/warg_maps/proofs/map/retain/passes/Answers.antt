use mathlib.Core.Path.{refl}
use Rattle.warg_maps.proofs.map.retain.passes.Goals as goal

pub returns : goal.returns
returns g c = record { key = _; value = _; shows = (refl, refl); left = _; called = c.keep.ensures; leaves = refl }
