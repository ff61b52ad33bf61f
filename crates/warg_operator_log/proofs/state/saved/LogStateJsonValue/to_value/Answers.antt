use Rattle.std.proofs.Common.{ℕ, List, [], ap, sym, subst, ◌∙◌}
use Rattle.serde_json.specs.View.{view}
use Rattle.warg_crypto.specs.Json.Json.{AreReadBack, ReadsBack, json_result}
use Rattle.warg_permissions.specs.declared.operator.Permission.{Permission}
use Rattle.warg_permissions.specs.KeyMaps.AuthorityData.{AuthorityData}
use Rattle.warg_log.specs.States.{State}
use Rattle.warg_operator_log.specs.Namespaces.{Namespace}
use Rattle.warg_operator_log.specs.SavedBack.{AreEqual}
use Rattle.warg_operator_log.specs.SavedState.{state_in}
use Rattle.warg_operator_log.proofs.SavedLaws.{state_back}
use Rattle.warg_operator_log.proofs.state.saved.LogStateJsonValue.to_value.Goals as goal

pub returns-clause-back : goal.returns-clause-back
returns-clause-back c =
    subst (λ (s : State (AuthorityData Permission) (List (List ℕ × Namespace))).
    AreReadBack [] → ReadsBack state_in AreEqual s (view c.object_value.result))
    c.self.view_is
    (λ back. state_back c.self.inside.log (view c.object_value.result) c.in_ok-members_of.ensures.savable
    (c.in_ok-members_of.ensures.written ∙ ap json_result (sym c.object_value.ensures)))
