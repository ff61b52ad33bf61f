use Rattle.std.proofs.Common.{subst}
use Rattle.std.specs.Prelude.{◌≡◌, OnOk, ⊤}
use Rattle.warg_crypto.specs.Json.Json.{IsReadBack}
use Rattle.warg_saved_states.specs.SavedPermissions.{permissions_in, permissions_json}
use Rattle.warg_saved_states.proofs.permission_set.PermissionSetSavedValue.can_save.Goals as goal

pub returns-clause-back : goal.returns-clause-back
returns-clause-back g c =
    subst (λ ps. OnOk c.can_save.result (⊤ → IsReadBack (permissions_json g.P.LogPermission.text_of)
    (permissions_in g.P.PartialEq.eq g.P.LogPermission.permission_named) (λ a b. a ≡ b) ps)) c.as_set.ensures c.can_save.ensures.back
