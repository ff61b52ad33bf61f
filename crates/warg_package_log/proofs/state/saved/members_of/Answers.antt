use Rattle.std.proofs.Common.{ℕ, List, [], ◌∷◌, ap, codes, sym, subst, ◌∙◌}
use Rattle.std.specs.Prelude.{Result}
use Rattle.serde_json.specs.Data.{Data, object}
use Rattle.serde_json.specs.View.{members_view}
use Rattle.warg_crypto.specs.Json.Json.{ReturnsOrNoMemory, Version}
use Rattle.warg_crypto.specs.Json.JsonTexts.{key_in, key_json}
use Rattle.warg_crypto.specs.NamedBytes.{NamedBytes}
use Rattle.warg_crypto.specs.declared.json.error.JsonError.{JsonError}
use Rattle.warg_permissions.specs.PackagePermissions.{permission_text}
use Rattle.warg_saved_states.specs.Backs.{AreBack, AreVersionsBack}
use Rattle.warg_saved_states.specs.MapNames.{text_name, text_named, version_name, version_named}
use Rattle.warg_saved_states.specs.SavedPermissions.{permissions_json}
use Rattle.warg_saved_states.proofs.MapsBack.{no_versions}
use Rattle.warg_saved_states.proofs.Optional.{same_pairs}
use Rattle.warg_log.proofs.SavedMembers.{on_ok-all, same_maps}
use Rattle.warg_package_log.specs.ReleaseJson.{release_in, release_json}
use Rattle.warg_package_log.specs.Releases.{ReleaseView}
use Rattle.warg_package_log.specs.SavedState.{named_releases}
use Rattle.warg_package_log.proofs.SavedFound.{versions_back}
use Rattle.warg_package_log.proofs.state.saved.members_of.Goals as goal

pub returns-clause-written : goal.returns-clause-written
returns-clause-written c =
    let s = c.args.log.now in
    let releases = c.as_map-releases.ensures ∙ ap named_releases c.own_state.ensures in
    let keys = same_pairs c.keys.result.now.entries ∙ c.keys.ensures in
    let same = same_maps (permissions_json permission_text) (codes "releases") version_name release_json (codes "keys") text_name key_json s.authority.algorithm s.head s.authority.rights releases keys in
    subst (λ (j : Result Data JsonError). ReturnsOrNoMemory (λ m. object (members_view m.entries)) c.members_value.result j) same c.members_value.ensures.written

pub returns-clause-savable : goal.returns-clause-savable
returns-clause-savable c =
    let as_saved = c.as_map-releases.ensures ∙ ap named_releases c.own_state.ensures in
    on_ok-all c.members_value.result
    c.members_value.ensures.coherent c.members_value.ensures.head c.members_value.ensures.rights c.members_value.ensures.firsts c.members_value.ensures.seconds
    (λ coherent head rights releases keys back. record {
      coherent = coherent;
      head = head;
      rights = rights;
      releases = subst (λ (es : List (Version × ReleaseView)). AreBack version_name version_named release_json release_in es) as_saved
          (releases (subst (λ (es : List (Version × ReleaseView)). AreVersionsBack (λ v. v ∷ []) (λ r. r.version ∷ []) es)
          (sym as_saved) (versions_back c.args.log.now.own_state back)));
      keys = subst (λ (es : List (List ℕ × NamedBytes)). AreBack text_name text_named key_json key_in es) (same_pairs c.keys.result.now.entries ∙ c.keys.ensures) (keys (no_versions _));
    })
