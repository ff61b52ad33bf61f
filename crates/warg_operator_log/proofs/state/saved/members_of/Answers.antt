use Rattle.std.proofs.Common.{◌∙◌, ℕ, List, codes, subst}
use Rattle.std.specs.Prelude.{Result}
use Rattle.serde_json.specs.Data.{Data, object}
use Rattle.serde_json.specs.View.{members_view}
use Rattle.warg_crypto.specs.Json.Json.{ReturnsOrNoMemory}
use Rattle.warg_crypto.specs.Json.JsonTexts.{key_in, key_json}
use Rattle.warg_crypto.specs.NamedBytes.{NamedBytes}
use Rattle.warg_crypto.specs.declared.json.error.JsonError.{JsonError}
use Rattle.warg_permissions.specs.OperatorPermissions.{permission_text}
use Rattle.warg_saved_states.specs.Backs.{AreBack}
use Rattle.warg_saved_states.specs.MapNames.{text_name, text_named}
use Rattle.warg_saved_states.specs.SavedPermissions.{permissions_json}
use Rattle.warg_saved_states.proofs.MapsBack.{no_versions}
use Rattle.warg_saved_states.proofs.Optional.{same_pairs}
use Rattle.warg_log.proofs.SavedMembers.{on_ok-all, same_maps}
use Rattle.warg_operator_log.specs.NamespaceJson.{saved_namespace_in, saved_namespace_json}
use Rattle.warg_operator_log.specs.NamespaceMap.{HasKebabNames}
use Rattle.warg_operator_log.specs.Namespaces.{Namespace}
use Rattle.warg_operator_log.proofs.state.saved.members_of.Goals as goal

pub returns-clause-written : goal.returns-clause-written
returns-clause-written c =
    let s = c.args.log.now in
    let keys = same_pairs c.keys.result.now.entries ∙ c.keys.ensures in
    let namespaces = c.as_map-namespaces.ensures.named ∙ c.own_state.ensures in
    let same = same_maps (permissions_json permission_text) (codes "keys") text_name key_json (codes "namespaces") text_name saved_namespace_json s.authority.algorithm s.head s.authority.rights keys namespaces in
    subst (λ (j : Result Data JsonError). ReturnsOrNoMemory (λ m. object (members_view m.entries)) c.members_value.result j) same c.members_value.ensures.written

pub returns-clause-savable : goal.returns-clause-savable
returns-clause-savable c = on_ok-all c.members_value.result
    c.members_value.ensures.coherent c.members_value.ensures.head c.members_value.ensures.rights c.members_value.ensures.firsts c.members_value.ensures.seconds
    (λ coherent head rights keys namespaces. record {
      coherent = coherent;
      kebabs = subst HasKebabNames c.own_state.ensures c.as_map-namespaces.ensures.kebabs;
      head = head;
      rights = rights;
      keys = subst (λ (es : List (List ℕ × NamedBytes)). AreBack text_name text_named key_json key_in es) (same_pairs c.keys.result.now.entries ∙ c.keys.ensures) (keys (no_versions _));
      namespaces = subst (λ (es : List (List ℕ × Namespace)). AreBack text_name text_named saved_namespace_json saved_namespace_in es) (c.as_map-namespaces.ensures.named ∙ c.own_state.ensures) (namespaces (no_versions _));
    })
