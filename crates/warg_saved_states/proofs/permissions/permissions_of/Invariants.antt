use Rattle.std.proofs.Common.{◌≡◌, [], drop}
use Rattle.serde_json.specs.View.{items_view}
use Rattle.warg_saved_states.specs.SavedPermissions.{permissions_from}
use Rattle.warg_saved_states.proofs.permissions.permissions_of.Given as goal

abbrev pub invariant-items : goal.invariant-items
invariant-items g l = permissions_from g.P.PartialEq.eq g.P.LogPermission.permission_named l.set.keys (items_view (drop l.value-index l.fn.items.items))
    ≡ permissions_from g.P.PartialEq.eq g.P.LogPermission.permission_named [] (items_view l.fn.items.items)
