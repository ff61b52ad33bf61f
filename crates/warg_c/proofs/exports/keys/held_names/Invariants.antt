use Rattle.std.proofs.Common.{◌≡◌, ◌++◌, length}
use Rattle.std.specs.Vec.Iter.{into_iter_items, into_iter_len}
use Rattle.warg_c.specs.Keys.{held_names}
use Rattle.warg_c.proofs.exports.keys.held_names.Given as goal

abbrev pub invariant-loop-permission : goal.invariant-loop-permission
invariant-loop-permission g l =
    (l.text.items ≡ held_names g.L.Permission.LogPermission.text_of (g.L.Validator.holds (g.L.Validator.view l.state) l.key_id) l.yielded)
    × (l.yielded ++ into_iter_items l.permission-iterator ≡ into_iter_items l.initial.permission-iterator)
    × (into_iter_len l.permission-iterator ≡ length (into_iter_items l.permission-iterator))
