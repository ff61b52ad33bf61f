-- What the envelopes of a package log say, by the one list of all their entries, and a state that says so.
use Rattle.std.specs.Prelude.{◌≡◌, ◌≤◌, ℕ, List, length, map, None}
use Rattle.std.specs.List.{filter_map, last_or}
use Rattle.std.specs.Option.{option_map}
use Rattle.warg_envelope.specs.EnvelopeData.{EnvelopeData}
use Rattle.warg_log_records.specs.PackageEntries.{VersionParts, PackageOwnEntry}
use Rattle.warg_permissions.specs.PackagePermissions.{same_permission}
use Rattle.warg_log_records.specs.PackageReading.{package_record_of}
use Rattle.warg_log_records.specs.RecordData.{EntryData}
use Rattle.warg_permissions.specs.declared.package.Permission.{Permission}
use Rattle.warg_permissions.specs.KeyMaps.AuthorityData.{AuthorityData}
use Rattle.warg_log.specs.History.{PlacedEvent, history_of, holds, has_entry, key_of, algorithm_of, own_events}
use Rattle.warg_log.specs.Rules.{SignedRecord, head_of}
use Rattle.warg_log.specs.KindOfRules.{signed_record_of}
use Rattle.warg_log.specs.States.{State}
use Rattle.warg_package_log.specs.ListedReleases.{listed_releases}
use Rattle.warg_package_log.specs.Releases.{ReleaseView, state_if_yanked, rules, record_id_of}
use Rattle.warg_package_log.specs.State.{view_of}

-- the envelopes as records
abbrev pub records_of : List EnvelopeData → List (SignedRecord Permission PackageOwnEntry)
records_of es = map (signed_record_of rules same_permission package_record_of) es

-- all entries in one list, each with its signer, its record's time and id, and its places
abbrev pub history : List EnvelopeData → List (PlacedEvent (EntryData Permission PackageOwnEntry))
history es = history_of record_id_of (records_of es)

-- each version has one Yank at most
abbrev pub OneYankEach : List (PlacedEvent (EntryData Permission PackageOwnEntry)) → Type 0
OneYankEach h = (v : VersionParts) → length (filter_map (state_if_yanked v) (own_events h)) ≤ 1

-- the Release entries of a history, in order, each Yanked if a Yank of its version stands in the history
abbrev pub releases_of : List (PlacedEvent (EntryData Permission PackageOwnEntry)) → List ReleaseView
releases_of h = listed_releases (own_events h)

-- all that the state says is what the history says; above each line the look-ups of `LogState` that answer it
pub record TellsHistory (s : State (AuthorityData Permission) (List ReleaseView)) (es : List EnvelopeData) : Type 0 where
  -- `key_permissions`: what the set has, and whether there is a set
  pub permissions : (k : List ℕ) (p : Permission)
      → (view_of s).state.authority.holds k p ≡ holds same_permission (history es) k p
  pub entries : (k : List ℕ) → (view_of s).state.authority.has_entry k ≡ has_entry (history es) k
  -- `public_key`
  pub keys : (k : List ℕ) → (view_of s).state.authority.key k ≡ key_of (history es) k
  -- none
  pub algorithm : (view_of s).state.authority.algorithm ≡ algorithm_of (history es)
  -- `releases`; `release` and `find_latest_release` choose among these
  pub releases : (view_of s).state.own_state ≡ releases_of (history es)
  -- `head`: the id, the time and the version of the last record, if there is one
  pub head : (view_of s).head ≡ option_map (head_of record_id_of) (last_or None (records_of es))
