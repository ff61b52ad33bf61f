use Rattle.std.proofs.Common.{◌≡◌, take, map}
use Rattle.warg_log_records.proofs.writing.write_permissions.Given as goal

abbrev pub invariant-loop-permission : goal.invariant-loop-permission
invariant-loop-permission g l = l.numbers.items ≡ map g.P.LogPermission.number_of (take l.permission-index l.permissions)
