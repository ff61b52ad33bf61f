-- Releases that are found alike by the texts of their versions are the same releases.
use Rattle.std.proofs.Common.{◌≡◌, refl, sym, ap, ◌∙◌, subst, true≢false}
use Rattle.std.specs.Prelude.{ℕ, List, [], ◌∷◌, map, Bool, true, false, not, ◌||◌, ◌&&◌, cond, Some, Ok}
use Rattle.std.specs.List.{AllByRecursion, list_all, list_any}
use Rattle.std.specs.Str.{bytes_eq}
use Rattle.std.proofs.lemmas.Slice.Eq.{bytes_eq-Decides}
use Rattle.warg_crypto.specs.Json.Json.{AreReadBack, Version}
use Rattle.warg_crypto.specs.Json.Pairs.{value_at}
use Rattle.warg_crypto.specs.Json.JsonLaws.{ok_same}
use Rattle.warg_saved_states.specs.Backs.{AreVersionsBack, IsBack}
use Rattle.warg_saved_states.specs.MapNames.{version_name, version_named}
use Rattle.warg_log.proofs.SavedEqual.{option_self}
use Rattle.warg_package_log.specs.ReleaseJson.{release_in, release_json}
use Rattle.warg_package_log.specs.Releases.{ReleaseView, find_parts, versions}
use Rattle.warg_package_log.specs.SameReleaseLaws.{exact_parts, release_decides, same_parts-self}
use Rattle.warg_package_log.specs.SameReleases.{same_at, same_release, same_releases}
use Rattle.warg_package_log.specs.SavedState.{is_misfiled, named_releases}
use Rattle.warg_package_log.specs.Versions.{same_parts}

-- the version is read of its text
abbrev pub IsNamed : Version → Type 0
IsNamed v = version_named (version_name v) ≡ Ok v

-- texts of versions that read back are equal exactly if the versions are
one_name : (v w : Version) → IsNamed v → IsNamed w → bytes_eq (version_name v) (version_name w) ≡ same_parts v w
one_name v w own other = by (bytes_eq (version_name v) (version_name w)) (same_parts v w) refl refl
  where
    by : (a b : Bool) → bytes_eq (version_name v) (version_name w) ≡ a → same_parts v w ≡ b → a ≡ b
    by true true s t = refl
    by false false s t = refl
    by true false s t =
        let text : version_name v ≡ version_name w = (bytes_eq-Decides (version_name v) (version_name w)).0 s in
        let one : v ≡ w = ok_same v w (sym own ∙ ap version_named text ∙ other) in
        absurd (true≢false (sym (same_parts-self v) ∙ ap (same_parts v) one ∙ t))
    by false true s t =
        let one : v ≡ w = exact_parts v w t in
        absurd (true≢false (sym ((bytes_eq-Decides (version_name v) (version_name w)).1 (ap version_name one)) ∙ s))

find_named : (rs : List ReleaseView) (v : Version) → IsNamed v → AllByRecursion IsNamed (versions rs) → find_parts rs v ≡ value_at version_name (version_name v) (named_releases rs)
find_named [] v own all = refl
find_named (r ∷ rs) v own all = λ i. cond (sym (one_name v r.version own all.0) i) (Some r) (find_named rs v own all.1 i)

find_filed : (es : List (Version × ReleaseView)) (v : Version) → IsNamed v → AllByRecursion (λ e. IsNamed e.0) es → AllByRecursion (λ e. e.0 ≡ e.1.version) es
    → find_parts (map (λ e. e.1) es) v ≡ value_at version_name (version_name v) es
find_filed [] v own all filed = refl
find_filed (e ∷ es) v own all filed =
    (λ i. cond (same_parts v (sym filed.0 i)) (Some e.1) (find_parts (map (λ e. e.1) es) v))
    ∙ (λ i. cond (sym (one_name v e.0 own all.0) i) (Some e.1) (find_filed es v own all.1 filed.1 i))

-- a release that was read stands under its version
pub filed : (es : List (Version × ReleaseView)) → list_any is_misfiled es ≡ false → AllByRecursion (λ e. e.0 ≡ e.1.version) es
filed [] none = tt
filed (e ∷ es) none = by (same_parts e.0 e.1.version) refl none (filed es)
  where
    by : (b : Bool) → same_parts e.0 e.1.version ≡ b → (not b || list_any is_misfiled es) ≡ false → (list_any is_misfiled es ≡ false → AllByRecursion (λ e. e.0 ≡ e.1.version) es)
        → AllByRecursion (λ e. e.0 ≡ e.1.version) (e ∷ es)
    by true is none rest = (exact_parts e.0 e.1.version is, rest none)
    by false is none rest = absurd (true≢false none)

-- no release stands under another version than its own
pub none_misfiled : (rs : List ReleaseView) → list_any is_misfiled (named_releases rs) ≡ false
none_misfiled [] = refl
none_misfiled (r ∷ rs) = rw (same_parts-self r.version) (none_misfiled rs)

pub named_versions : (rs : List ReleaseView) → AllByRecursion (IsBack version_name version_named release_json release_in) (named_releases rs) → AllByRecursion IsNamed (versions rs)
named_versions [] back = tt
named_versions (r ∷ rs) back = (back.0.name, named_versions rs back.1)

filed_versions : (es : List (Version × ReleaseView)) → AllByRecursion (λ e. IsNamed e.0) es → AllByRecursion (λ e. e.0 ≡ e.1.version) es → AllByRecursion IsNamed (versions (map (λ e. e.1) es))
filed_versions [] all filed = tt
filed_versions (e ∷ es) all filed = (subst IsNamed filed.0 all.0, filed_versions es all.1 filed.1)

all_pass : (test : Version → Bool) (vs : List Version) → AllByRecursion IsNamed vs → ((v : Version) → IsNamed v → test v ≡ true) → list_all test vs ≡ true
all_pass test [] all h = refl
all_pass test (v ∷ vs) all h = ap (λ b. b && list_all test vs) (h v all.0) ∙ all_pass test vs all.1 h

-- releases that were read, and are found as those that were written
pub releases_again : (rs : List ReleaseView) (es : List (Version × ReleaseView)) → AllByRecursion IsNamed (versions rs) → AllByRecursion (λ e. IsNamed e.0) es → AllByRecursion (λ e. e.0 ≡ e.1.version) es
    → ((q : List ℕ) → value_at version_name q es ≡ value_at version_name q (named_releases rs)) → same_releases rs (map (λ e. e.1) es) ≡ true
releases_again rs es named all filed at =
    let again : List ReleaseView = map (λ e. e.1) es in
    let one : (v : Version) → IsNamed v → same_at rs again v ≡ true
    = λ v own. option_self same_release (λ r. (release_decides r r).1 refl) (find_parts rs v) (find_parts again v)
    (find_filed es v own all filed ∙ at (version_name v) ∙ sym (find_named rs v own named)) in
    λ i. all_pass (same_at rs again) (versions rs) named one i && all_pass (same_at rs again) (versions again) (filed_versions es all filed) one i

-- the versions of the releases, as names and in values
pub versions_back : (rs : List ReleaseView) → AreReadBack (versions rs) → AreVersionsBack (λ v. v ∷ []) (λ r. r.version ∷ []) (named_releases rs)
versions_back [] h = tt
versions_back (r ∷ rs) h = (((h.0, tt), (h.0, tt)), versions_back rs h.1)
