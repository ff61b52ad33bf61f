-- When what is saved of a state reads back.
use Rattle.std.specs.Prelude.{◌≡◌, List, true, Some}
use Rattle.warg_crypto.specs.Json.Json.{IsReadBack, Version}
use Rattle.warg_crypto.specs.Json.JsonTexts.{key_in, key_json}
use Rattle.warg_permissions.specs.PackagePermissions.{permission_in, permission_text, same_permission}
use Rattle.warg_permissions.specs.declared.package.Permission.{Permission}
use Rattle.warg_saved_states.specs.Backs.{AreBack}
use Rattle.warg_saved_states.specs.MapNames.{text_name, text_named, version_name, version_named}
use Rattle.warg_saved_states.specs.SavedPermissions.{permissions_in, permissions_json}
use Rattle.warg_permissions.specs.KeyMaps.AuthorityData.{AuthorityData}
use Rattle.warg_log.specs.Equal.{same_states}
use Rattle.warg_log.specs.HeadJson.{head_in, head_json}
use Rattle.warg_log.specs.Rules.{IsCoherent}
use Rattle.warg_log.specs.States.{State}
use Rattle.warg_log.specs.declared.head.Head.{Head}
use Rattle.warg_package_log.specs.ReleaseJson.{release_in, release_json}
use Rattle.warg_package_log.specs.Releases.{ReleaseView, rules, versions}
use Rattle.warg_package_log.specs.SameReleases.{same_releases}
use Rattle.warg_package_log.specs.SavedState.{named_releases}
use Rattle.warg_package_log.specs.State.{view_of}

-- `==` of the states answers true
abbrev pub AreEqual : State (AuthorityData Permission) (List ReleaseView) → State (AuthorityData Permission) (List ReleaseView)
    → Type 0
AreEqual s t = same_states same_permission same_releases s t ≡ true

-- the versions of the releases: where their texts read back, so does the state
abbrev pub saved_versions : State (AuthorityData Permission) (List ReleaseView) → List Version
saved_versions s = versions s.own_state

-- the state is coherent, and each of its parts reads back
pub record IsSavable (s : State (AuthorityData Permission) (List ReleaseView)) : Type 0 where
  pub coherent : IsCoherent rules same_permission (view_of s)
  pub head : (h : Head) → s.head ≡ Some h → IsReadBack head_json head_in (λ x y. x ≡ y) h
  pub rights : AreBack text_name text_named (permissions_json permission_text)
      (permissions_in same_permission permission_in) s.authority.rights
  pub releases : AreBack version_name version_named release_json release_in (named_releases s.own_state)
  pub keys : AreBack text_name text_named key_json key_in s.authority.keys
