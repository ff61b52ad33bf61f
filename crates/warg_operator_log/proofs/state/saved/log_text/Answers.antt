use Rattle.std.proofs.Common.{◌≡◌, ◌∙◌, ℕ, List, codes, string_bytes, subst}
use Rattle.std.specs.Prelude.{IfOk, Result}
use Rattle.serde_json.specs.Data.{Data}
use Rattle.warg_crypto.specs.Json.Json.{ReturnsOrNoMemory}
use Rattle.warg_crypto.specs.Json.JsonTexts.{key_in, key_json}
use Rattle.warg_crypto.specs.NamedBytes.{NamedBytes}
use Rattle.warg_crypto.specs.declared.json.error.JsonError.{JsonError}
use Rattle.warg_permissions.specs.OperatorPermissions.{permission_text}
use Rattle.warg_saved_states.specs.Backs.{AreBack}
use Rattle.warg_saved_states.specs.MapNames.{text_name, text_named}
use Rattle.warg_saved_states.specs.SavedPermissions.{permissions_json}
use Rattle.warg_saved_states.specs.Texts.{IsReadAs, text_of}
use Rattle.warg_saved_states.proofs.MapsBack.{no_versions}
use Rattle.warg_saved_states.proofs.Optional.{same_pairs}
use Rattle.warg_log.proofs.SavedMembers.{on_ok-all, same_maps}
use Rattle.warg_operator_log.specs.NamespaceJson.{saved_namespace_in, saved_namespace_json}
use Rattle.warg_operator_log.specs.NamespaceMap.{HasKebabNames}
use Rattle.warg_operator_log.specs.Namespaces.{Namespace}
use Rattle.warg_operator_log.proofs.state.saved.log_text.Goals as goal

pub returns-clause-written : goal.returns-clause-written
returns-clause-written c =
    let s = c.args.log.now in
    let keys = same_pairs c.keys.result.now.entries ∙ c.keys.ensures in
    let namespaces = c.as_map.ensures.named ∙ c.own_state.ensures in
    let same = same_maps (permissions_json permission_text) (codes "keys") text_name key_json (codes "namespaces") text_name saved_namespace_json s.authority.algorithm s.head s.authority.rights keys namespaces in
    subst (λ (j : Result Data JsonError). ReturnsOrNoMemory string_bytes c.members_text.result (text_of j)) same c.members_text.ensures.written

pub returns-clause-read : goal.returns-clause-read
returns-clause-read c =
    let s = c.args.log.now in
    let keys = same_pairs c.keys.result.now.entries ∙ c.keys.ensures in
    let namespaces = c.as_map.ensures.named ∙ c.own_state.ensures in
    let same = same_maps (permissions_json permission_text) (codes "keys") text_name key_json (codes "namespaces") text_name saved_namespace_json s.authority.algorithm s.head s.authority.rights keys namespaces in
    subst (λ (j : Result Data JsonError). IfOk c.members_text.result (λ text. IsReadAs j (string_bytes text))) same c.members_text.ensures.read

pub returns-clause-savable : goal.returns-clause-savable
returns-clause-savable c = on_ok-all c.members_text.result
    c.members_text.ensures.coherent c.members_text.ensures.head c.members_text.ensures.rights c.members_text.ensures.firsts c.members_text.ensures.seconds
    (λ coherent head rights keys namespaces. record {
      coherent = coherent;
      kebabs = subst HasKebabNames c.own_state.ensures c.as_map.ensures.kebabs;
      head = head;
      rights = rights;
      keys = subst (λ (es : List (List ℕ × NamedBytes)). AreBack text_name text_named key_json key_in es) (same_pairs c.keys.result.now.entries ∙ c.keys.ensures) (keys (no_versions _));
      namespaces = subst (λ (es : List (List ℕ × Namespace)). AreBack text_name text_named saved_namespace_json saved_namespace_in es) (c.as_map.ensures.named ∙ c.own_state.ensures) (namespaces (no_versions _));
    })
