-- Equivalent lists of releases answer an entry alike, and are equivalent after it.
use Rattle.std.proofs.Common.{◌≡◌, refl, sym, ap, ◌∙◌}
use Rattle.std.specs.Prelude.{List, [], ◌∷◌, map, Bool, true, false, cond, is_none, Option, Some}
use Rattle.std.specs.Option.{option_map, option_or}
use Rattle.std.proofs.lemmas.List.Folds.{find-append}
use Rattle.warg_log.specs.Offences.{unless}
use Rattle.warg_log.specs.Rules.{Event}
use Rattle.warg_log_records.specs.PackageEntries.{VersionParts, PackageOwnEntry, Release, Yank}
use Rattle.warg_package_log.specs.Versions.{same_parts}
use Rattle.warg_package_log.specs.Releases.{ReleaseView, ReleaseOfReleased, with_later_yanks, releases_made, releases_after, find_parts, own_offence, unyankable}
use Rattle.warg_package_log.specs.SameReleases.{AreEquivalentReleases}

found_turned : (b : Bool) (ys : List (Event PackageOwnEntry)) (r : ReleaseView) (o : Option ReleaseView)
    → cond b (Some (with_later_yanks ys r)) (option_map (with_later_yanks ys) o) ≡ option_map (with_later_yanks ys) (cond b (Some r) o)
found_turned true ys r o = refl
found_turned false ys r o = refl

-- a release is found, and then turned
pub find-with_later_yanks : (ys : List (Event PackageOwnEntry)) (v : VersionParts) (rs : List ReleaseView)
    → find_parts (map (with_later_yanks ys) rs) v ≡ option_map (with_later_yanks ys) (find_parts rs v)
find-with_later_yanks ys v [] = refl
find-with_later_yanks ys v (r ∷ rs) = ap (cond (same_parts v r.version) (Some (with_later_yanks ys r))) (find-with_later_yanks ys v rs) ∙ found_turned (same_parts v r.version) ys r (find_parts rs v)

-- what is found after events
find-after : (rs : List ReleaseView) (es : List (Event PackageOwnEntry)) (v : VersionParts)
    → find_parts (releases_after rs es) v ≡ option_or (option_map (with_later_yanks es) (find_parts rs v)) (find_parts (releases_made es) v)
find-after rs es v = find-append (λ r. same_parts v r.version) (map (with_later_yanks es) rs) (releases_made es) ∙ ap (λ o. option_or o (find_parts (releases_made es) v)) (find-with_later_yanks es v rs)

-- equivalent lists find the same wrong with a release or a yank
pub equivalent_releases_offence : (rs qs : List ReleaseView) → AreEquivalentReleases rs qs → (o : PackageOwnEntry)
    → own_offence rs o ≡ own_offence qs o
equivalent_releases_offence rs qs equivalent (Release v content) = ap (λ o. unless (is_none o) (ReleaseOfReleased v)) (equivalent v)
equivalent_releases_offence rs qs equivalent (Yank v) = ap (λ (o : Option ReleaseView). unyankable v (option_map (λ r. r.state) o)) (equivalent v)

-- equivalent lists still are after the same events
pub equivalent_releases_after : (rs qs : List ReleaseView) → AreEquivalentReleases rs qs
    → (es : List (Event PackageOwnEntry))
    → AreEquivalentReleases (releases_after rs es) (releases_after qs es)
equivalent_releases_after rs qs equivalent es v = find-after rs es v ∙ ap (λ o. option_or (option_map (with_later_yanks es) o) (find_parts (releases_made es) v)) (equivalent v) ∙ sym (find-after qs es v)
