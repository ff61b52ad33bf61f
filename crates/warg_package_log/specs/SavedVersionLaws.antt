-- The versions of a state stand in what is written of it, and read back where they were read.
use Rattle.std.specs.Prelude.{◌≡◌, ℕ, List, [], ◌∷◌, map, codes, true, false, Option, Some, None, Result, Ok, refl}
use Rattle.std.specs.List.{AllByRecursion}
use Rattle.std.specs.Str.{bytes_eq}
use Rattle.std.proofs.Common.{◌∙◌, ap, subst, sym, true≢false}
use Rattle.std.proofs.lemmas.Slice.Eq.{bytes_eq-Decides}
use Rattle.semver.specs.Identifiers.{parts_text}
use Rattle.serde_json.specs.Data.{Data, Members, no_members, object, put}
use Rattle.serde_json.specs.Find.{get_member}
use Rattle.serde_json.proofs.Views.{get_member-put, get_member-put_other}
use Rattle.warg_crypto.specs.Json.Json.{AreReadBack, Version, json_result}
use Rattle.warg_crypto.specs.Json.JsonTexts.{algorithm_in, algorithm_json, key_in, key_json}
use Rattle.warg_crypto.specs.Json.Members.{optional_member, put_option, put_some}
use Rattle.warg_crypto.specs.Json.Pairs.{pairs_json, pairs_member, some_pairs_json}
use Rattle.warg_crypto.specs.Json.PairsReadLaws.{values_read}
use Rattle.warg_crypto.specs.Json.JsonLaws.{bind_ok, ok_same}
use Rattle.warg_crypto.specs.Json.Within.{AreWithin, IsWithin}
use Rattle.warg_crypto.specs.Json.WithinLaws.{member_within, names_within}
use Rattle.warg_crypto.specs.declared.json.error.Incoherence.{Incoherence}
use Rattle.warg_permissions.specs.PackagePermissions.{permission_in, permission_text, same_permission}
use Rattle.warg_permissions.specs.declared.package.Permission.{Permission}
use Rattle.warg_saved_states.specs.Fit.{unless_case}
use Rattle.warg_saved_states.specs.Maps.{put_pairs}
use Rattle.warg_saved_states.specs.MapNames.{text_name, text_named, version_name, version_named}
use Rattle.warg_saved_states.specs.SavedPermissions.{permissions_in, permissions_json}
use Rattle.warg_permissions.specs.KeyMaps.AuthorityData.{AuthorityData}
use Rattle.warg_log.specs.HeadJson.{head_in, head_json}
use Rattle.warg_log.specs.States.{State}
use Rattle.warg_package_log.specs.ReleaseJson.{release_in, release_json}
use Rattle.warg_package_log.specs.Releases.{ReleaseView, versions}
use Rattle.warg_package_log.specs.ReleaseVersionLaws.{release_versions}
use Rattle.warg_package_log.specs.SavedBack.{saved_versions}
use Rattle.warg_package_log.specs.SavedState.{Parts, incoherence, named_releases, parts_in, state_in, state_json, state_of}

abbrev PackageState : Type 0
PackageState = State (AuthorityData Permission) (List ReleaseView)

-- the names of the releases are the texts of their versions
named_within : (rs : List ReleaseView) (d : Data) → AllByRecursion (λ e. IsWithin (version_name e.0) d) (named_releases rs)
    → AreWithin (versions rs) d
named_within [] d h = tt
named_within (r ∷ rs) d h = (h.0, named_within rs d h.1)

-- where some releases were put as a member, another member hides them not
releases_within : (rs : List ReleaseView) (o k : Option Data) (ms : Members)
    → some_pairs_json version_name release_json (named_releases rs) ≡ Ok o
    → AreWithin (versions rs) (object (put_some (codes "keys") k (put_some (codes "releases") o ms)))
releases_within [] o k ms is = tt
releases_within (r ∷ rs) o k ms is =
    let w = bind_ok (pairs_json version_name release_json (named_releases (r ∷ rs))) (λ d. json_result (Some d)) o is in
    let all = named_within (r ∷ rs) w.0 (names_within version_name release_json (named_releases (r ∷ rs)) w.0 w.1) in
    let here : get_member (codes "releases") (put_some (codes "releases") o ms) ≡ Some w.0 =
    subst (λ (x : Option Data). get_member (codes "releases") (put_some (codes "releases") x ms) ≡ Some w.0)
    (ok_same (Some w.0) o w.2) (get_member-put (codes "releases") w.0 ms) in
    member_within (versions (r ∷ rs)) (codes "releases") w.0 _ (beside k (put_some (codes "releases") o ms) ∙ here) all
  where
    apart : codes "releases" ≡ codes "keys" → ⊥
    apart e = true≢false (sym ((bytes_eq-Decides (codes "releases") (codes "keys")).1 e))

    beside : (k : Option Data) (ms : Members)
        → get_member (codes "releases") (put_some (codes "keys") k ms) ≡ get_member (codes "releases") ms
    beside None ms = refl
    beside (Some d) ms = get_member-put_other (codes "releases") (codes "keys") d ms apart

-- the versions stand in the state
pub state_within : (s : PackageState) (d : Data) → state_json s ≡ Ok d → AreWithin (saved_versions s) d
state_within s d is =
    let w1 = bind_ok (put_option algorithm_json (codes "algorithm") s.authority.algorithm no_members) _ d is in
    let w2 = bind_ok (put_option head_json (codes "head") s.head w1.0) _ d w1.2 in
    let w3 = bind_ok (put_pairs text_name (permissions_json permission_text) (codes "permissions") s.authority.rights w2.0) _ d w2.2 in
    let w4 = bind_ok (put_pairs version_name release_json (codes "releases") (named_releases s.own_state) w3.0) _ d w3.2 in
    let w5 = bind_ok (put_pairs text_name key_json (codes "keys") s.authority.keys w4.0) _ d w4.2 in
    let o = bind_ok (some_pairs_json version_name release_json (named_releases s.own_state)) (λ x. json_result (put_some (codes "releases") x w3.0)) w4.0 w4.1 in
    let k = bind_ok (some_pairs_json text_name key_json s.authority.keys) (λ x. json_result (put_some (codes "keys") x w4.0)) w5.0 w5.1 in
    let put_o : put_some (codes "releases") o.0 w3.0 ≡ w4.0 = ok_same (put_some (codes "releases") o.0 w3.0) w4.0 o.2 in
    let put_k : put_some (codes "keys") k.0 w4.0 ≡ w5.0 = ok_same (put_some (codes "keys") k.0 w4.0) w5.0 k.2 in
    let whole : object (put_some (codes "keys") k.0 (put_some (codes "releases") o.0 w3.0)) ≡ d =
    (λ i. object (put_some (codes "keys") k.0 (put_o i))) ∙ (λ i. object (put_k i)) ∙ ok_same (object w5.0) d w5.2 in
    subst (λ (x : Data). AreWithin (saved_versions s) x) whole (releases_within s.own_state o.0 k.0 w3.0 o.1)

fits : (c : Option Incoherence) (s t : PackageState) → unless_case c s ≡ Ok t → s ≡ t
fits None s t h = ok_same s t h
fits (Some i) s t h = cc h

all_back : (es : List (Version × ReleaseView)) → AllByRecursion (λ e. AreReadBack (e.1.version ∷ [])) es
    → AreReadBack (versions (map (λ e. e.1) es))
all_back [] h = tt
all_back (e ∷ es) h = (h.0.0, all_back es h.1)

-- the versions of a state that was read read back
pub state_versions : (s : PackageState) (d : Data) → state_in d ≡ Ok s → AreReadBack (saved_versions s)
state_versions s d is =
    let w = bind_ok (parts_in d) _ s is in
    let w1 = bind_ok (optional_member algorithm_in (codes "algorithm") d) _ w.0 w.1 in
    let w2 = bind_ok (optional_member head_in (codes "head") d) _ w.0 w1.2 in
    let w3 = bind_ok (pairs_member text_named (permissions_in same_permission permission_in) (codes "permissions") d) _ w.0 w2.2 in
    let w4 = bind_ok (pairs_member version_named release_in (codes "releases") d) _ w.0 w3.2 in
    let w5 = bind_ok (pairs_member text_named key_in (codes "keys") d) _ w.0 w4.2 in
    let same : w4.0 ≡ w.0.firsts = ap (λ (p : Parts). p.firsts) (ok_same _ w.0 w5.2) in
    let all = values_read version_named release_in (λ (r : ReleaseView). AreReadBack (r.version ∷ [])) release_versions
    (codes "releases") d w4.0 w4.1 in
    let back : AreReadBack (versions (map (λ e. e.1) w.0.firsts)) =
    subst (λ (es : List (Version × ReleaseView)). AreReadBack (versions (map (λ (e : Version × ReleaseView). e.1) es))) same (all_back w4.0 all) in
    subst (λ (t : PackageState). AreReadBack (saved_versions t)) (fits (incoherence w.0) (state_of w.0) s w.2) back
