-- The releases of a list of own events, by filters.
use Rattle.std.specs.Prelude.{List, [], ◌∷◌, Option, None, unwrap_or}
use Rattle.std.specs.List.{filter_map, last_or}
use Rattle.std.specs.Option.{option_map}
use Rattle.warg_log_records.specs.PackageEntries.{PackageOwnEntry}
use Rattle.warg_log.specs.Rules.{Event}
use Rattle.warg_package_log.specs.Releases.{ReleaseView, OwnOffence, release_made_by_event, state_if_yanked, releases_after, own_offence}

-- the release, Yanked if a Yank of its version stands anywhere in the events
abbrev pub with_yank : List (Event PackageOwnEntry) → ReleaseView → ReleaseView
with_yank events r = record r { state = unwrap_or (last_or None (filter_map (state_if_yanked r.version) events)) r.state }

-- the releases of the events, in order
abbrev pub listed_releases : List (Event PackageOwnEntry) → List ReleaseView
listed_releases events = filter_map (λ e. option_map (with_yank events) (release_made_by_event e)) events

-- the releases after one more event
abbrev pub own_after : List ReleaseView → Event PackageOwnEntry → List ReleaseView
own_after rs e = releases_after rs (e ∷ [])

-- what is wrong with one more event
abbrev pub event_offence : List ReleaseView → Event PackageOwnEntry → Option OwnOffence
event_offence rs e = own_offence rs e.entry
