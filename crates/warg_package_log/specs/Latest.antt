-- The greatest release that passes a test.
use Rattle.std.specs.Prelude.{◌≡◌, List, Bool, true, false, ◌&&◌, not, Option, Some, None, Contains, map, if◌then◌else◌}
use Rattle.std.specs.List.{AllByRecursion}
use Rattle.std.specs.Ordering.{is_gt, is_lt, nat_cmp, ordering_then}
use Rattle.std.specs.declared.cmp.Ordering.{Ordering}
use Rattle.semver.specs.Order.{pre_cmp, build_cmp}
use Rattle.semver.specs.Identifiers.{parts_of}
use Rattle.semver.specs.Eval.{matches_all}
use Rattle.semver.specs.declared.Comparator.{Comparator}
use Rattle.warg_log_records.specs.PackageEntries.{VersionParts}
use Rattle.semver.specs.EvalViews.{matches_views}
use Rattle.semver.specs.Identifiers.{comparator_view}
use Rattle.warg_package_log.specs.Releases.{ReleaseView, is_yanked}
use Rattle.warg_package_log.specs.declared.release.Release.{Release}

-- the order of versions: by precedence, and then by build metadata
abbrev pub parts_cmp : VersionParts → VersionParts → Ordering
parts_cmp a b = ordering_then (nat_cmp a.0 b.0) (ordering_then (nat_cmp a.1 b.1) (ordering_then (nat_cmp a.2 b.2) (ordering_then (pre_cmp a.3 b.3) (build_cmp a.4 b.4))))

-- o is an item that passes the test, and none that does is greater; or none does
abbrev pub IsGreatest : {A : Type 0} → (A → Bool) → (A → A → Ordering) → List A → Option A → Type 0
IsGreatest test cmp xs None = AllByRecursion (λ x. test x ≡ false) xs
IsGreatest test cmp xs (Some best) = Contains xs best × (test best ≡ true) × AllByRecursion (λ x. test x ≡ true → is_gt (cmp x best) ≡ false) xs

-- a release that meets the requirement and was not yanked
abbrev pub is_candidate : List Comparator → Release → Bool
is_candidate cs r = not (is_yanked r.state) && matches_all cs r.version

-- the order of releases: that of their versions
abbrev pub release_cmp : Release → Release → Ordering
release_cmp a b = parts_cmp (parts_of a.version) (parts_of b.version)

-- the greater of the best so far and an item, where the item passes the test
abbrev pub greater_of : {A : Type 0} → (A → Bool) → (A → A → Ordering) → Option A → A → Option A
greater_of test cmp None x = if test x then Some x else None
greater_of test cmp (Some best) x = if test x && not (is_lt (cmp x best)) then Some x else Some best

-- a release, as a state shows it, that meets the requirement and was not yanked
abbrev pub shows_candidate : List Comparator → ReleaseView → Bool
shows_candidate cs r = not (is_yanked r.state) && matches_views (map comparator_view cs) r.version

-- the order of releases as a state shows them: that of their versions
abbrev pub shown_cmp : ReleaseView → ReleaseView → Ordering
shown_cmp a b = parts_cmp a.version b.version
