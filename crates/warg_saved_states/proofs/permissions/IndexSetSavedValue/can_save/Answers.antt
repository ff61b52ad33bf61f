use Rattle.std.proofs.Common.{Ok, refl}
use Rattle.warg_saved_states.proofs.PermissionLists.{permissions_read_back}
use Rattle.warg_saved_states.proofs.permissions.IndexSetSavedValue.can_save.Goals as goal

pub returns-clause-ok : goal.returns-clause-ok
returns-clause-ok g c = (_, refl)

pub returns-clause-back : goal.returns-clause-back
returns-clause-back g c = λ none d is.
    permissions_read_back g.P.PartialEq.eq g.met.P.Eq.laws g.P.LogPermission.text_of g.P.LogPermission.permission_named g.met.P.LogPermission.text_reads_back
    c.args.self.now.keys c.iter-permissions.ensures.unique (λ d. d) (Ok d) is none
