use Rattle.std.proofs.Common.{◌≡◌, [], false, if◌then◌else◌, take, drop}
use Rattle.indexmap.specs.IndexSet.{contains}
use Rattle.warg_permissions.specs.Permissions.{lists}
use Rattle.warg_permissions.specs.KeyMaps.Rights.{first_missing}
use Rattle.warg_permissions.proofs.key_maps.rights.remove_all.Given as goal

abbrev pub invariant-loop-permission : goal.invariant-loop-permission
invariant-loop-permission g l = let same = g.P.PartialEq.eq in record {
  taken : (p : g.row.P.Denot) → contains same l.set p ≡ (if lists same (take l.permission-index l.permissions) p then false else contains same l.initial.set p);
  missing : first_missing same (contains same l.initial.set) [] l.permissions ≡ first_missing same (contains same l.initial.set) (take l.permission-index l.permissions) (drop l.permission-index l.permissions);
}
