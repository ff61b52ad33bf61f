-- When two releases are the same, and when two lists of releases are: by what they answer for each version.
use Rattle.std.specs.Prelude.{◌≡◌, List, Bool, ◌&&◌, false}
use Rattle.std.specs.List.{list_all}
use Rattle.std.specs.Option.{option_eq}
use Rattle.std.specs.Str.{bytes_eq}
use Rattle.warg_crypto.specs.Time.Times.{same_time}
use Rattle.warg_crypto.specs.declared.hash.AnyHash.{AnyHash}
use Rattle.warg_log.specs.RecordOffences.{same_id}
use Rattle.warg_log_records.specs.PackageEntries.{VersionParts}
use Rattle.warg_package_log.specs.Versions.{same_parts}
use Rattle.warg_package_log.specs.Releases.{ReleaseView, find_parts, versions}
use Rattle.warg_package_log.specs.declared.release.ReleaseState.{ReleaseState}
use Rattle.warg_package_log.specs.declared.release.ReleaseState.TheVariants.{Released, Yanked}

-- there is one algorithm
abbrev pub same_hash : AnyHash → AnyHash → Bool
same_hash a b = bytes_eq a.bytes b.bytes

-- whether both stand with the same content, or both were yanked by the same key at the same time
abbrev pub same_state : ReleaseState → ReleaseState → Bool
same_state (Released a) (Released b) = same_hash a b
same_state (Released a) (Yanked by time) = false
same_state (Yanked by time) (Released a) = false
same_state (Yanked a s) (Yanked b t) = bytes_eq a b && same_time s t

-- whether two releases agree in record, version, signer, time and state
abbrev pub same_release : ReleaseView → ReleaseView → Bool
same_release a b = same_id a.record_id b.record_id && (same_parts a.version b.version && (bytes_eq a.by b.by && (same_time a.timestamp b.timestamp && same_state a.state b.state)))

-- whether the two lists have the same release of the version, or both none
abbrev pub same_at : List ReleaseView → List ReleaseView → VersionParts → Bool
same_at rs qs v = option_eq same_release (find_parts rs v) (find_parts qs v)

-- the same at each version of either list, in whatever order
abbrev pub same_releases : List ReleaseView → List ReleaseView → Bool
same_releases rs qs = list_all (same_at rs qs) (versions rs) && list_all (same_at rs qs) (versions qs)

-- equivalent lists: the same is found for every version
abbrev pub AreEquivalentReleases : List ReleaseView → List ReleaseView → Type 0
AreEquivalentReleases rs qs = (v : VersionParts) → find_parts rs v ≡ find_parts qs v
