use Rattle.std.proofs.Common.{List, ap, sym, subst, ◌∙◌}
use Rattle.serde_json.specs.View.{view}
use Rattle.warg_crypto.specs.Json.Json.{AreReadBack, ReadsBack, json_result}
use Rattle.warg_permissions.specs.declared.package.Permission.{Permission}
use Rattle.warg_permissions.specs.KeyMaps.AuthorityData.{AuthorityData}
use Rattle.warg_log.specs.States.{State}
use Rattle.warg_package_log.specs.Releases.{ReleaseView}
use Rattle.warg_package_log.specs.SavedBack.{AreEqual, saved_versions}
use Rattle.warg_package_log.specs.SavedState.{state_in}
use Rattle.warg_package_log.proofs.SavedLaws.{state_back}
use Rattle.warg_package_log.proofs.state.saved.LogStateJsonValue.to_value.Goals as goal

pub returns-clause-back : goal.returns-clause-back
returns-clause-back c =
    subst (λ (s : State (AuthorityData Permission) (List ReleaseView)).
    AreReadBack (saved_versions s) → ReadsBack state_in AreEqual s (view c.object_value.result))
    c.self.view_is
    (λ back. state_back c.self.inside.log (view c.object_value.result) (c.in_ok-members_of.ensures.savable back)
    (c.in_ok-members_of.ensures.written ∙ ap json_result (sym c.object_value.ensures)))
