-- Package logs: what a state stands for, what its look-ups answer, and what a log's history says.
-- the rules, and what content bytes are as a record
pub use Rattle.warg_package_log.specs.StateLaws.{kind, package_log, effects, AreEquivalent}
pub use Rattle.warg_package_log.specs.Releases.{rules}
pub use Rattle.warg_log_records.specs.PackageReading.{package_record_of, package_entry_of}
pub use Rattle.warg_log_records.specs.Readings.{package_reading}
pub use Rattle.warg_log_records.specs.PackageEntries.{PackageOwnEntry, entry_data, record_data, required_permission_of}
pub use Rattle.warg_log_records.specs.PackageWriting.{package_record_message, package_entry_message, package_content_of}
-- what a state stands for: `(view_of s).state.authority.holds`, `.key`, `.has_entry`, `(view_of s).state.own_state`, `(view_of s).head`
pub use Rattle.warg_package_log.specs.State.{View, view_of, envelope_as_data, offence_of, record_offence, unsigned_offence, after_record}
pub use Rattle.warg_permissions.specs.declared.package.Permission.{Permission}
pub use Rattle.warg_permissions.specs.PackagePermissions.{same_permission, permission_text, permission_in}
-- the offences that package logs alone have, and the names of all offences
pub use Rattle.warg_package_log.specs.Releases.{OwnOffence, record_id_of}
pub use Rattle.warg_package_log.specs.OffenceNames.{offence_name, error_name}
-- the releases that a state shows
pub use Rattle.warg_package_log.specs.declared.release.ReleaseState.{ReleaseState}
pub use Rattle.warg_package_log.specs.Releases.{ReleaseView, versions, is_yanked, content_of}
pub use Rattle.warg_package_log.specs.ReleaseMap.{release_view, find_in, AreDistinct}
pub use Rattle.warg_package_log.specs.Latest.{IsGreatest, shows_candidate, shown_cmp}
-- what the history of a log says
pub use Rattle.warg_package_log.specs.Extensions.{IsExtension}
pub use Rattle.warg_package_log.specs.StateHistory.{TellsHistory, OneYankEach, records_of, history, releases_of}
-- what a state is written as in JSON, what JSON is read as, and that what was written reads back equal
pub use Rattle.warg_package_log.specs.SavedState.{state_json, state_in}
pub use Rattle.warg_package_log.specs.SavedBack.{AreEqual, saved_versions}
