use Rattle.std.proofs.Common.{◌≡◌, ◌||◌, take}
use Rattle.indexmap.specs.IndexSet.{contains}
use Rattle.warg_permissions.specs.Permissions.{lists}
use Rattle.warg_permissions.proofs.key_maps.rights.add_all.Given as goal

abbrev pub invariant-loop-permission : goal.invariant-loop-permission
invariant-loop-permission g l = (p : g.row.P.Denot) → contains g.P.PartialEq.eq l.set p ≡ (contains g.P.PartialEq.eq l.initial.set p || lists g.P.PartialEq.eq (take l.permission-index l.permissions) p)
