use Rattle.std.proofs.Common.{length}
use Rattle.json.specs.Json.{value}
use Rattle.warg_saved_states.proofs.PermissionItems.{ArePermissionsSoFar}
use Rattle.warg_saved_states.proofs.permissions.next_permissions.Given as goal

abbrev pub invariant-items : goal.invariant-items
invariant-items g l = ArePermissionsSoFar g.P.PartialEq.eq g.P.LogPermission.permission_named (value l.depth) l.initial.reader l.reader l.fault l.set.keys

abbrev pub decreases-items : goal.decreases-items
decreases-items g l = length l.reader
