use Rattle.std.proofs.Common.{length, ◌-◌, ◌≤◌, take}
use Rattle.warg_listed_map.specs.ListedMaps.{IsLatest}
use Rattle.warg_listed_map.proofs.parting.latest.Given as goal

abbrev pub invariant-loop-i : goal.invariant-loop-i
invariant-loop-i l = (l.i ≤ length l.entries) × IsLatest (take l.i l.entries) l.best

abbrev pub decreases-loop-i : goal.decreases-loop-i
decreases-loop-i l = length l.entries - l.i
