use Rattle.std.proofs.Common.{◌-◌}
use Rattle.warg_listed_map.proofs.root.+root_at.Given as goal

abbrev pub decreases-root_at : goal.decreases-root_at
decreases-root_at l = 256 - l.depth
