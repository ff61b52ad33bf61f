use Rattle.serde_json.specs.View.{view}
use Rattle.warg_saved_states.proofs.PermissionLists.{permissions_read_back}
use Rattle.warg_saved_states.proofs.permissions.IndexSetSavedValue.save.Goals as goal

pub returns-clause-back : goal.returns-clause-back
returns-clause-back g c =
    permissions_read_back g.P.PartialEq.eq g.met.P.Eq.laws g.P.LogPermission.text_of g.P.LogPermission.permission_named g.met.P.LogPermission.text_reads_back
    c.args.self.now.keys c.iter-permissions.ensures.unique view c.permissions_value.result c.permissions_value.ensures
