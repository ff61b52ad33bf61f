use Rattle.std.proofs.Common.{◌≡◌, ◌++◌, Ok, length}
use Rattle.std.specs.Vec.Iter.{into_iter_items, into_iter_len}
use Rattle.warg_log_records.specs.RecordReading.{each, permission_in}
use Rattle.warg_log_records.proofs.reading.read_permissions.Given as goal

abbrev pub invariant-loop-number : goal.invariant-loop-number
invariant-loop-number g l = (each (permission_in g.P.LogPermission.permission_of) l.yielded ≡ Ok l.permissions.items)
    × (l.yielded ++ into_iter_items l.number-iterator ≡ into_iter_items l.initial.number-iterator)
    × (into_iter_len l.number-iterator ≡ length (into_iter_items l.number-iterator))
