-- The releases of a map, as they are saved and restored.
use Rattle.std.proofs.Common.{◌≡◌, List, [], ◌∷◌, map, Bool, true, false, ◌||◌, not, None, refl, sym, ◌∙◌, subst}
use Rattle.std.specs.List.{AllByRecursion, IsDistinct, list_any}
use Rattle.std.specs.Map.{keys_of}
use Rattle.semver.specs.declared.Version.{Version}
use Rattle.semver.specs.Identifiers.{parts_of}
use Rattle.warg_crypto.specs.Json.Pairs.{plain_pairs}
use Rattle.warg_log_records.specs.PackageEntries.{VersionParts}
use Rattle.warg_crypto.specs.declared.json.error.Incoherence.{Incoherence}
use Rattle.warg_saved_states.specs.Fit.{case_if}
use Rattle.warg_package_log.specs.ReleaseMap.{AreDistinct, IsReleaseMap, IsUnderVersions, release_view, views}
use Rattle.warg_package_log.specs.Releases.{versions}
use Rattle.warg_package_log.specs.SameReleaseLaws.{exact_parts}
use Rattle.warg_package_log.specs.SavedState.{is_misfiled, named_releases, releases_case}
use Rattle.warg_package_log.specs.Versions.{same_parts, same_version}
use Rattle.warg_package_log.specs.declared.release.Release.{Release}
use Rattle.warg_package_log.proofs.ReleaseMapLemmas.{map_map}

-- each release of the map is named by its own version
pub named-pairs : (es : List (Version × Release)) → IsUnderVersions es → plain_pairs parts_of release_view es ≡ named_releases (views es)
named-pairs [] all = refl
named-pairs (e ∷ es) all = λ i. (all.0 i, release_view e.1) ∷ named-pairs es all.1 i

pub values-views : (es : List (Version × Release)) → map (λ e. e.1) (plain_pairs parts_of release_view es) ≡ views es
values-views es = map_map (λ (e : Version × Release). (parts_of e.0, release_view e.1)) (λ e. e.1) es

no_case : (b : Bool) (i : Incoherence) → case_if b i ≡ None → b ≡ false
no_case true i h = cc h
no_case false i h = refl

neither : (a b : Bool) → (a || b) ≡ false → (a ≡ false) × (b ≡ false)
neither true b h = cc h
neither false b h = (refl, h)

not_not : (a : Bool) → not a ≡ false → a ≡ true
not_not true h = refl
not_not false h = cc h

filed : (es : List (Version × Release)) → list_any is_misfiled (plain_pairs parts_of release_view es) ≡ false → IsUnderVersions es
filed [] h = tt
filed (e ∷ es) h =
    let here = neither (not (same_parts (parts_of e.0) (parts_of e.1.version))) _ h in
    (exact_parts (parts_of e.0) (parts_of e.1.version) (not_not (same_parts (parts_of e.0) (parts_of e.1.version)) here.0), filed es here.1)

other_versions : (v : Version) (es : List (Version × Release)) → IsUnderVersions es → AllByRecursion (λ y. same_version v y ≡ false) (keys_of es)
    → AllByRecursion (λ w. same_parts (parts_of v) w ≡ false) (versions (views es))
other_versions v [] all h = tt
other_versions v (e ∷ es) all h = ((λ i. same_parts (parts_of v) (sym all.0 i)) ∙ h.0, other_versions v es all.1 h.1)

distinct_versions : (es : List (Version × Release)) → IsUnderVersions es → IsDistinct same_version (keys_of es) → AreDistinct (versions (views es))
unfolding IsDistinct
distinct_versions [] all h = tt
distinct_versions (e ∷ es) all h =
    let others = other_versions e.0 es all.1 h.0 in
    (own (parts_of e.0) (parts_of e.1.version) all.0 others, distinct_versions es all.1 h.1)
  where
    own : (a b : VersionParts) → a ≡ b → AllByRecursion (λ w. same_parts a w ≡ false) (versions (views es)) → AllByRecursion (λ w. same_parts b w ≡ false) (versions (views es))
    own a b is all = subst (λ (v : VersionParts). AllByRecursion (λ w. same_parts v w ≡ false) (versions (views es))) is all

-- a map whose releases stand under their versions, as a state has it
pub restored-release_map : (es : List (Version × Release)) → IsDistinct same_version (keys_of es) → releases_case (plain_pairs parts_of release_view es) ≡ None → IsReleaseMap es
restored-release_map es distinct h =
    let under = filed es (no_case _ _ h) in
    record { under = under; distinct = distinct_versions es under distinct }
