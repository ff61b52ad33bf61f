use Rattle.std.proofs.Common.{ℕ, List, ◌∙◌, subst}
use Rattle.warg_saved_states.specs.Backs.{AreBack}
use Rattle.warg_saved_states.specs.MapNames.{text_name, text_named}
use Rattle.warg_saved_states.specs.SavedPermissions.{permissions_in, permissions_json}
use Rattle.warg_saved_states.proofs.MapsBack.{no_versions}
use Rattle.warg_log.proofs.saved_members.members_value.Goals as goal

pub returns-clause-head : goal.returns-clause-head
returns-clause-head g c = λ h at. c.in_ok-put_head.ensures.back h (c.head.ensures.value ∙ at)

pub returns-clause-rights : goal.returns-clause-rights
returns-clause-rights g c =
    subst (λ (es : List (List ℕ × List _)). AreBack text_name text_named (permissions_json g.M.Permission.LogPermission.text_of) (permissions_in g.M.Permission.PartialEq.eq g.M.Permission.LogPermission.permission_named) es)
    c.permissions.ensures.plain (c.in_ok-put_map.ensures.back (no_versions _))
