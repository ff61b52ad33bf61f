use Rattle.std.proofs.Common.{◌-◌}
use Rattle.warg_listed_map.proofs.proof.+path_at.Given as goal

abbrev pub decreases-path_at : goal.decreases-path_at
decreases-path_at l = 256 - l.depth
