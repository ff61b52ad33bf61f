-- Releases as bytes, and which of them are looked up.
use Rattle.std.specs.Prelude.{◌≡◌, ℕ, List, ◌++◌, length, map, pos, Option, Some, None, IsSome, Ok}
use Rattle.std.specs.List.{slice_get}
use Rattle.std.specs.Str.{IsUtf8}
use Rattle.semver.specs.Identifiers.{comparator_view, parts_text}
use Rattle.semver.specs.Parse.{req_of, version_parts}
use Rattle.semver.specs.declared.Comparator.{Comparator}
use Rattle.warg_crypto.specs.HashText.{hash_text}
use Rattle.warg_package_log.specs.Latest.{IsGreatest, shows_candidate, shown_cmp}
use Rattle.warg_package_log.specs.Releases.{ReleaseView, find_parts}
use Rattle.warg_package_log.specs.declared.release.ReleaseState.{ReleaseState}
use Rattle.warg_package_log.specs.declared.release.ReleaseState.TheVariants.{Released, Yanked}
use Rattle.warg_log_records.specs.PackageEntries.{VersionParts}
use Rattle.warg_c.specs.declared.any_log.AnyLog.{AnyLog}
use Rattle.warg_c.specs.declared.any_log.AnyLog.TheVariants.{Package, Operator}
use Rattle.warg_c.specs.declared.release_text.ShownRelease.{ShownRelease}
use Rattle.warg_c.specs.Logs.{state_of}

-- the digest of the content, or the id of the key that yanked
abbrev pub state_text : ReleaseState → List ℕ
state_text (Released content) = hash_text content
state_text (Yanked by timestamp) = by

-- whether it was yanked, and when
abbrev pub IsYank : ReleaseState → ShownRelease → Type 0
IsYank (Released content) n = (n.is_yanked ≡ 0) × (n.yanked_seconds ≡ pos 0) × (n.yanked_nanos ≡ 0)
IsYank (Yanked by timestamp) n = (n.is_yanked ≡ 1) × (n.yanked_seconds ≡ timestamp.seconds) × (n.yanked_nanos ≡ timestamp.nanos)

-- the texts of a release one behind the other, with their lengths, and what else it says
pub record Shows (r : ReleaseView) (n : ShownRelease) (text : List ℕ) : Type 0 where
  pub text_is : text ≡ ((parts_text r.version ++ hash_text r.record_id.hash) ++ r.by) ++ state_text r.state
  pub version_len : n.version_len ≡ length (parts_text r.version)
  pub record_id_len : n.record_id_len ≡ length (hash_text r.record_id.hash)
  pub key_id_len : n.key_id_len ≡ length r.by
  pub state_len : n.state_len ≡ length (state_text r.state)
  pub seconds : n.seconds ≡ r.timestamp.seconds
  pub nanos : n.nanos ≡ r.timestamp.nanos
  pub yank : IsYank r.state n

-- the text is no requirement
abbrev pub IsNoRequirement : List ℕ → Type 0
IsNoRequirement text = (cs : List Comparator) → IsUtf8 text → req_of text ≡ Ok (map comparator_view cs) → ⊥

-- the text is no version
abbrev pub IsNoVersion : List ℕ → Type 0
IsNoVersion text = (parts : VersionParts) → IsUtf8 text → version_parts text ≡ Ok parts → ⊥

module _ (releases : List ReleaseView) where
  -- the requirement's text asks for these releases, and this is the greatest of them that is not yanked, if any is
  pub record IsLatest (requirement : List ℕ) (found : Option ReleaseView) : Type 0 where
    pub comparators : List Comparator
    pub required : req_of requirement ≡ Ok (map comparator_view comparators)
    pub greatest : IsGreatest (shows_candidate comparators) shown_cmp releases found

  -- this is the release of the text's version, if there is one
  pub record IsReleaseOf (version : List ℕ) (found : Option ReleaseView) : Type 0 where
    pub parts : VersionParts
    pub named : version_parts version ≡ Ok parts
    pub first : find_parts releases parts ≡ found

-- the release at a place
abbrev pub IsAt : ℕ → List ReleaseView → Option ReleaseView → Type 0
IsAt place releases found = slice_get releases place ≡ found

-- the log is one of a package
abbrev pub is_package : AnyLog → Type 0
is_package (Package log) = Unit {0}
is_package (Operator log) = ⊥

-- the latest release that a requirement asks for is shown
abbrev pub latest_tells : AnyLog → List ℕ → ShownRelease → List ℕ → Type 0
latest_tells (Package log) requirement n text = (r : ReleaseView) × IsLatest (state_of log).own_state requirement (Some r) × Shows r n text
latest_tells (Operator log) requirement n text = ⊥

abbrev pub latest_lacks : AnyLog → List ℕ → Type 0
latest_lacks (Package log) requirement = IsLatest (state_of log).own_state requirement None
latest_lacks (Operator log) requirement = ⊥

-- the text is no requirement, or the log is of operators
abbrev pub latest_bad : AnyLog → List ℕ → Type 0
latest_bad (Package log) requirement = IsNoRequirement requirement
latest_bad (Operator log) requirement = Unit {0}

-- the release of a version is shown
abbrev pub release_tells : AnyLog → List ℕ → ShownRelease → List ℕ → Type 0
release_tells (Package log) version n text = (r : ReleaseView) × IsReleaseOf (state_of log).own_state version (Some r) × Shows r n text
release_tells (Operator log) version n text = ⊥

abbrev pub release_lacks : AnyLog → List ℕ → Type 0
release_lacks (Package log) version = IsReleaseOf (state_of log).own_state version None
release_lacks (Operator log) version = ⊥

-- the text is no version, or the log is of operators
abbrev pub release_bad : AnyLog → List ℕ → Type 0
release_bad (Package log) version = IsNoVersion version
release_bad (Operator log) version = Unit {0}

-- the release at a place is shown
abbrev pub place_tells : AnyLog → ℕ → ShownRelease → List ℕ → Type 0
place_tells (Package log) place n text = (r : ReleaseView) × IsAt place (state_of log).own_state (Some r) × Shows r n text
place_tells (Operator log) place n text = ⊥

-- there is a release at the place
abbrev pub place_takes : AnyLog → ℕ → Type 0
place_takes (Package log) place = IsSome (slice_get (state_of log).own_state place)
place_takes (Operator log) place = ⊥

abbrev pub place_lacks : AnyLog → ℕ → Type 0
place_lacks (Package log) place = IsAt place (state_of log).own_state None
place_lacks (Operator log) place = ⊥

-- the log is of operators
abbrev pub place_bad : AnyLog → Type 0
place_bad (Package log) = ⊥
place_bad (Operator log) = Unit {0}
